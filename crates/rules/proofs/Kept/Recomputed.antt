-- All caches worked out: from any kept tables every anchor is right afterwards.
use Rattle.std.specs.Prelude.{if◌then◌else◌}
use mathlib.Core.Path.{◌≡◌, refl, ap, ◌∙◌}
use mathlib.Core.Logic.{inl, inr}
use mathlib.Core.Bool.{true}
use Prim.Native.Nat.{ℕ, zero, suc}
use native.Mathlib.Omega.{arith}
use Rattle.rules.specs.Common.{in_order}
use Rattle.rules.specs.Hashes.{zero_hash}
use Rattle.rules.specs.Records.{NONE, Blocks, Heads, used, slots_of, Caches, caches, with_caches}
use Rattle.rules.specs.Caches.{recompute_used, recompute_all, recompute_head, recompute_heads}
use Rattle.rules.proofs.Splits.{split}
use Rattle.rules.proofs.Kept.Seats.{in_use, head-slots}
use Rattle.rules.proofs.Kept.Frame.{Frame, Good}
use Rattle.rules.proofs.Kept.Settle.{Redone, Turn, redone, loop-good}

-- one turn, over the heads
unfoldable redo : Blocks → ℕ → Heads → Heads
redo t k h = if used h.tips k then recompute_head t h k NONE zero_hash else h

redo-cached : (t : Blocks) (k : ℕ) (h : Heads) (c : Caches) → redo t k (with_caches h c) ≡ with_caches h (recompute_used t.parents t.sequences t.flags h.tips k c)
unfolding redo recompute_used
redo-cached t k h c = split (used h.tips k) (λ e. rw e refl) (λ e. rw e refl)

all-redone : (t : Blocks) (h : Heads) (n : ℕ)
    → in_order (redo t) n h ≡ with_caches h (in_order (recompute_used t.parents t.sequences t.flags h.tips) n (caches h))
unfolding in_order
all-redone t h zero = refl
all-redone t h (suc n) =
    ap (redo t n) (all-redone t h n) ∙ redo-cached t n h (in_order (recompute_used t.parents t.sequences t.flags h.tips) n (caches h))

module _ (t : Blocks) (active_head : ℕ) (C : ℕ → Type 0) where
  yes : (k : ℕ) (h : Heads) → Frame t h active_head C → in_use h k ≡ true → Redone t k h (redo t k h)
  unfolding redo
  yes k h g u = rw u (redone t h active_head C g k NONE zero_hash u)

  turn : (k : ℕ) (h : Heads) → Frame t h active_head C → Turn t k h (redo t k h)
  unfolding redo
  turn k h g = split (in_use h k) (λ u. inr (yes k h g u)) (λ e. rw e (inl refl))

  pub recomputed : (h : Heads) → Frame t h active_head C → Good t (recompute_heads t h) active_head C
  unfolding recompute_all
  recomputed h g =
      let e = head-slots h g.roomy in
      rw (← all-redone t h (slots_of h.tips))
      (loop-good t active_head C (redo t) turn h g (λ _. Unit {0}) (λ _ _. inr tt) (λ k u f o _. yes k u f o) (slots_of h.tips) (omega arith))
