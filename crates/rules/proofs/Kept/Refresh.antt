-- Admission's last steps: the heads that missed the hash, and admit's added refresh, are turns that leave every anchor right.
use mathlib.Core.Path.{◌≡◌, refl}
use mathlib.Core.Logic.{inl, inr}
use mathlib.Core.Bool.{Bool, true, false, not, ◌&&◌}
use mathlib.Core.List.{List}
use Prim.Native.Nat.{ℕ}
use native.Mathlib.Omega.{arith}
use lib.Dec.{eqb}
use lib.ListN.{get_or}
use borrow.Author.Tests.{ne_eqb}
use Rattle.rules.specs.Common.{in_order}
use Rattle.rules.specs.Hashes.{hash_at, same_hash, zero_hash}
use Rattle.rules.specs.Records.{NONE, Blocks, Heads, Tables, tail_at, stored, is_connected, bit0, slots_of, caches, with_caches, head_at}
use Rattle.rules.specs.Anchor.{tail}
use Rattle.rules.specs.Caches.{slot_of_head, refresh_head, recompute_head}
use Rattle.rules.specs.Admission.{misses, recompute_missed, recompute_missing, outgrown, refresh_outgrown, refresh_tails}
use Rattle.rules.proofs.Splits.{split, option?, and-true}
use Rattle.rules.proofs.Kept.Table.{is_occupied, parent_of}
use Rattle.rules.proofs.Kept.Seats.{tip_of, in_use, kept_by, anchor_of, head-slots}
use Rattle.rules.proofs.Kept.Frame.{Frame, Good, Late, Apt, head-some, head-none}
use Rattle.rules.proofs.Kept.Settle.{Redone, Turn, redone, loop-frame, loop-apt, loop-good}

pub stored-use : (h : Heads) (k : ℕ) → stored h.tips h.connected k ≡ true → in_use h k ≡ true
unfolding stored
stored-use h k e = (and-true (in_use h k) (not (is_connected h.connected k)) e).0

-- ---- the heads that missed the hash

module _ (t : Blocks) (active_head x : ℕ) (C : ℕ → Type 0) (hash previous : List ℕ) where
  missed-turn : (k : ℕ) (h : Heads) → Frame t h active_head C → Turn t k h (recompute_missed t x hash previous k h)
  unfolding recompute_missed misses
  missed-turn k h g = split (misses h.tips h.missing h.connected hash k)
      (λ e.
      let c = and-true (stored h.tips h.connected k) (same_hash (hash_at h.missing k) hash) e in
      rw e (inr (redone t h active_head C g k x previous (stored-use h k c.0))))
      (λ e. rw e (inl refl))

-- ---- the added refresh

anchor_of-tail : (b : Bool) (i j : ℕ) → anchor_of b i ≡ tail j → (b ≡ false) × (i ≡ j)
unfolding anchor_of
anchor_of-tail true i j e = let z : ◌≡◌ {A = ℕ} 0 1 = cc in absurd (omega arith)
anchor_of-tail false i j e = (refl, cc)

module _ (t : Blocks) (active_head : ℕ) (C : ℕ → Type 0) (k : ℕ) (h : Heads) (g : Frame t h active_head C) where
  -- the lowest head of the tip is the head itself
  refresh-is : in_use h k ≡ true → with_caches h (refresh_head t.parents t.sequences t.flags h.tips (caches h) (tip_of h k)) ≡ recompute_head t h k NONE zero_hash
  unfolding refresh_head
  refresh-is u = option? (slot_of_head h.tips (tip_of h k))
      (λ n. absurd (head-none h (tip_of h k) k g.roomy n u refl))
      (λ j e.
      let w = head-some h (tip_of h k) j e in
      let q : j ≡ k = g.apart j k w.0 u w.1 in
      rw (e, refresh_head) (rw q refl))

  yes : outgrown t.parents t.sequences h.tips h.tails h.connected k ≡ true → Redone t k h (refresh_outgrown t k h)
  unfolding refresh_outgrown outgrown
  yes e =
      let s = stored h.tips h.connected k in
      let i = tail_at h.tails k in
      let c = and-true (s && is_occupied t i) (not (eqb (parent_of t i) NONE)) e in
      let u = stored-use h k (and-true s (is_occupied t i) c.0).0 in
      rw (e, refresh-is u) (redone t h active_head C g k NONE zero_hash u)

  refresh-turn : Turn t k h (refresh_outgrown t k h)
  unfolding refresh_outgrown
  refresh-turn = split (outgrown t.parents t.sequences h.tips h.tails h.connected k) (λ e. inr (yes e)) (λ e. rw e (inl refl))

  late-outgrown : in_use h k ≡ true → Late t (head_at h k) → outgrown t.parents t.sequences h.tips h.tails h.connected k ≡ true
  unfolding outgrown stored is_connected kept_by head_at
  late-outgrown u l =
      let c = anchor_of-tail (bit0 (get_or h.connected k 0)) (tail_at h.tails k) l.0 l.1 in
      rw (u, c.0, c.1, l.2, ne_eqb (parent_of t l.0) NONE l.3)

-- ---- both loops

module _ (w : Tables) (active_head x : ℕ) (C : ℕ → Type 0) (hash previous : List ℕ) (g : Frame w.blocks w.heads active_head C) (a : Apt w.blocks w.heads (Late w.blocks)) where
  pub refreshed : Good w.blocks (refresh_tails (recompute_missing w x hash previous)).heads active_head C
  unfolding refresh_tails recompute_missing
  refreshed =
      let t = w.blocks in
      let h = w.heads in
      let act = recompute_missed t x hash previous in
      let turn = missed-turn t active_head x C hash previous in
      let n = slots_of h.tips in
      let h1 = in_order act n h in
      let g1 = loop-frame t active_head C act turn h g n in
      let a1 = loop-apt t active_head C act turn h g (Late t) a n in
      let e = head-slots h1 g1.roomy in
      loop-good t active_head C (refresh_outgrown t) (λ k u f. refresh-turn t active_head C k u f) h1 g1 (Late t) a1 (λ k u f o l. yes t active_head C k u f (late-outgrown t active_head C k u f o l)) (slots_of h1.tips) (omega arith)
