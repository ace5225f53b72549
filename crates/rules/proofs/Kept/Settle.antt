-- The caches are worked out again, head by head.
use mathlib.Core.Path.{◌≡◌, refl, sym, ◌∙◌}
use mathlib.Core.Logic.{◌≢◌, ◌⊎◌, inl, inr}
use mathlib.Core.Bool.{true}
use mathlib.Core.List.{List}
use Prim.Native.Nat.{ℕ, zero, suc, ◌≤◌, ◌<◌}
use native.Mathlib.Omega.{arith}
use Rattle.rules.specs.Common.{in_order}
use Rattle.rules.specs.Records.{Blocks, Heads, head_at}
use Rattle.rules.specs.Caches.{recompute_head}
use Rattle.rules.specs.declared.Head.{Head}
use Rattle.rules.proofs.Splits.{same?}
use Rattle.rules.proofs.Kept.Ends.{Ends, located, anchor-ends}
use Rattle.rules.proofs.Kept.Seats.{room, tip_of, in_use, kept, use-lt, Seat, seat-tip, seat-use, seat-kept, seat-taken, use-ne}
use Rattle.rules.proofs.Kept.Frame.{Frame, Good, Apt, seat-frame}
use Rattle.rules.proofs.Kept.Cached.{recompute-seat, recompute-kept}

-- head k, in use, has its caches worked out
pub record Redone (t : Blocks) (k : ℕ) (h u : Heads) : Type 0 where
  pub busy : in_use h k ≡ true
  pub seat : Seat h u k (tip_of h k)
  pub right : kept u k ≡ located t (tip_of h k)

abbrev pub Turn : Blocks → ℕ → Heads → Heads → Type 0
Turn t k h u = (u ≡ h) ⊎ Redone t k h u

module _ (t : Blocks) (h : Heads) (active_head : ℕ) (C : ℕ → Type 0) (g : Frame t h active_head C) where
  pub redone : (k arriving : ℕ) (previous : List ℕ) → in_use h k ≡ true → Redone t k h (recompute_head t h k arriving previous)
  redone k arriving previous u = record {
    busy = u;
    seat = recompute-seat t h k arriving previous;
    right = recompute-kept t h k arriving previous g.roomy (use-lt h k u);
  }

  module _ (u : Heads) (k : ℕ) where
    turn-use : Turn t k h u → (s : ℕ) → in_use u s ≡ in_use h s
    turn-use (inl q) s = rw q refl
    turn-use (inr r) s = same? s k
        (λ q. rw q (seat-taken h u k (tip_of h k) r.seat (use-lt h k r.busy) (use-ne h k r.busy) ∙ sym r.busy))
        (λ ne. seat-use h u k (tip_of h k) r.seat s ne)

    turn-frame : Turn t k h u → Frame t u active_head C
    turn-frame (inl q) = rw q g
    turn-frame (inr r) = let p = g.tips k r.busy in
        seat-frame t h u active_head k (tip_of h k) C C g r.seat (use-lt h k r.busy) p.0 p.1
        (λ s ne us q. ne (g.apart s k us r.busy q))
        (λ i c ne. (c, λ _ q. ne (sym q)))

    pub redone-ends : Redone t k h u → Ends t (tip_of u k) (kept u k)
    redone-ends r = rw (r.seat.here (use-lt h k r.busy), r.right) (anchor-ends t (tip_of h k) g.counts.shape g.counts.linked (g.tips k r.busy).0)

    -- what is right stays right
    turn-right : Turn t k h u → (s : ℕ) → Ends t (tip_of h s) (kept h s) → Ends t (tip_of u s) (kept u s)
    turn-right (inl q) s x = rw q x
    turn-right (inr r) s x = same? s k
        (λ q. rw q (redone-ends r))
        (λ ne. rw (seat-tip h u k (tip_of h k) r.seat s ne, seat-kept h u k (tip_of h k) r.seat s ne) x)

    turn-apt : (need : Head → Type 0) → Turn t k h u → Apt t h need → Apt t u need
    turn-apt need (inl q) a s us = rw q (a s (rw q at us))
    turn-apt need (inr r) a s us = same? s k
        (λ q. inl (rw q (redone-ends r)))
        (λ ne. elim (a s (sym (turn-use (inr r) s) ∙ us)) [
          | inl x ↦ inl (turn-right (inr r) s x)
          | inr n ↦ inr (rw (r.seat.rest s ne) n)
        ])

-- ---- a loop of such turns

module _ (t : Blocks) (active_head : ℕ) (C : ℕ → Type 0) (act : ℕ → Heads → Heads) (turn : (k : ℕ) (h : Heads) → Frame t h active_head C → Turn t k h (act k h)) (h : Heads) (g : Frame t h active_head C) where
  pub loop-frame : (n : ℕ) → Frame t (in_order act n h) active_head C
  unfolding in_order
  loop-frame zero = g
  loop-frame (suc n) = turn-frame t (in_order act n h) active_head C (loop-frame n) (act n (in_order act n h)) n (turn n (in_order act n h) (loop-frame n))

  pub loop-use : (n s : ℕ) → in_use (in_order act n h) s ≡ in_use h s
  unfolding in_order
  loop-use zero s = refl
  loop-use (suc n) s = turn-use t (in_order act n h) active_head C (loop-frame n) (act n (in_order act n h)) n (turn n (in_order act n h) (loop-frame n)) s ∙ loop-use n s

  module _ (need : Head → Type 0) (a : Apt t h need) where
    pub loop-apt : (n : ℕ) → Apt t (in_order act n h) need
    unfolding in_order
    loop-apt zero = a
    loop-apt (suc n) = turn-apt t (in_order act n h) active_head C (loop-frame n) (act n (in_order act n h)) n need (turn n (in_order act n h) (loop-frame n)) (loop-apt n)

    module _ (must : (k : ℕ) (u : Heads) → Frame t u active_head C → in_use u k ≡ true → need (head_at u k) → Redone t k u (act k u)) where
      last : (n : ℕ) (u : Heads) (f : Frame t u active_head C) → Apt t u need → (s : ℕ) → in_use u s ≡ true → (s ≢ n → Ends t (tip_of u s) (kept u s)) → Ends t (tip_of (act n u) s) (kept (act n u) s)
      last n u f b s us rest = same? s n
          (λ q. elim (b s us) [
            | inl x ↦ turn-right t u active_head C f (act n u) n (turn n u f) s x
            | inr e ↦ rw q (redone-ends t u active_head C f (act n u) n (must n u f (rw q at us) (rw q at e)))
          ])
          (λ ne. turn-right t u active_head C f (act n u) n (turn n u f) s (rest ne))

      settled : (n s : ℕ) → s < n → in_use h s ≡ true → Ends t (tip_of (in_order act n h) s) (kept (in_order act n h) s)
      unfolding in_order
      settled zero s l u = absurd (omega arith)
      settled (suc n) s l u = last n (in_order act n h) (loop-frame n) (loop-apt n) s (loop-use n s ∙ u) (λ ne. settled n s (omega arith) u)

      pub loop-good : (n : ℕ) → room h ≤ n → Good t (in_order act n h) active_head C
      loop-good n le = record {
        frame = loop-frame n;
        anchored = λ s u. let us = sym (loop-use n s) ∙ u in settled n s (let l = use-lt h s us in omega arith) us;
      }
