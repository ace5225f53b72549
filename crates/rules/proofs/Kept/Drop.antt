-- Removal's work on the heads: of those whose tip was freed one may move to the root's parent, and the rest are emptied.
use mathlib.Core.Path.{◌≡◌, refl, sym, ◌∙◌}
use mathlib.Core.Bool.{true, false}
use mathlib.Core.List.{List}
use Rattle.std.specs.Prelude.{Option}
use Prim.Native.Nat.{ℕ, zero, suc, ◌≤◌, ◌<◌}
use native.Mathlib.Omega.{arith}
use Rattle.rules.specs.Common.{is_at, in_order}
use Rattle.rules.specs.Records.{NONE, Heads, empty_head, head_at}
use Rattle.rules.specs.Removal.{head_freed, drop_head}
use Rattle.rules.proofs.Splits.{split, same?}
use Rattle.rules.proofs.Kept.Bytes.{zero-length}
use Rattle.rules.proofs.Kept.Seats.{same_head, room, tip_of, Room, Seat, clear-seat, put-head}
use Rattle.rules.proofs.Kept.Cached.{tip-seat}

module _ (l : List ℕ) (moving : Option ℕ) (p : ℕ) where
  -- what becomes of head s of h
  pub data Cell (h u : Heads) (s : ℕ) : Type 0 where
    moved : is_at moving s ≡ true → tip_of u s ≡ p → Cell h u s
    emptied : is_at moving s ≡ false → head_freed h.tips l s ≡ true → head_at u s ≡ empty_head → Cell h u s
    left : is_at moving s ≡ false → head_freed h.tips l s ≡ false → head_at u s ≡ head_at h s → Cell h u s

  pub record Dropped (k : ℕ) (h u : Heads) : Type 0 where
    pub rooms : room u ≡ room h
    pub roomy : Room h → Room u
    pub cells : Room h → (s : ℕ) → s < k → s < room h → Cell h u s
    pub later : (s : ℕ) → k ≤ s → head_at u s ≡ head_at h s

  freed-same : (h u : Heads) (s : ℕ) → head_at u s ≡ head_at h s → head_freed u.tips l s ≡ head_freed h.tips l s
  unfolding head_freed
  freed-same h u s e = let q = same_head h u s e in rw (q.busy, q.tip)

  -- another head's cell is as it was
  cell-on : (h u v : Heads) (s : ℕ) → head_at v s ≡ head_at u s → Cell h u s → Cell h v s
  cell-on h u v s e (moved a b) = moved a ((same_head u v s e).tip ∙ b)
  cell-on h u v s e (emptied a b c) = emptied a b (e ∙ c)
  cell-on h u v s e (left a b c) = left a b (e ∙ c)

  module _ (k : ℕ) (h u : Heads) (d : Dropped k h u) where
    -- one head more, whichever way it went
    next : (v : Heads) (x : ℕ) → Seat u v k x → (Room h → k < room h → Cell h v k) → Dropped (suc k) h v
    next v x s c = record {
      rooms = s.rooms ∙ d.rooms;
      roomy = λ r. s.roomy (d.roomy r);
      cells = λ r i li n. same? i k
          (λ q. rw q (c r (rw q at n)))
          (λ ne. cell-on h u v i (s.rest i ne) (d.cells r i (omega arith) n));
      later = λ i li. s.rest i (omega arith) ∙ d.later i (omega arith);
    }

    turn : Dropped (suc k) h (drop_head l moving p k u)
    unfolding drop_head
    turn = split (is_at moving k)
        (λ a. rw a (next _ p (tip-seat u k p) (λ r n. moved a ((tip-seat u k p).here (rw d.rooms n)))))
        (λ a. split (head_freed u.tips l k)
        (λ f. rw (a, f) (next _ NONE (clear-seat u k)
        (λ r n. emptied a (sym (freed-same h u k (d.later k (omega arith))) ∙ f) (put-head u k _ zero-length (d.roomy r) (rw d.rooms n)))))
        (λ f. rw (a, f) (record {
          rooms = d.rooms;
          roomy = d.roomy;
          cells = λ r i li n. same? i k
              (λ q. rw q (left a (sym (freed-same h u k (d.later k (omega arith))) ∙ f) (d.later k (omega arith))))
              (λ ne. d.cells r i (omega arith) n);
          later = λ i li. d.later i (omega arith);
        })))

  pub dropped : (k : ℕ) (h : Heads) → Dropped k h (in_order (drop_head l moving p) k h)
  unfolding in_order
  dropped zero h = record { rooms = refl; roomy = λ r. r; cells = λ _ s z _. absurd (omega arith); later = λ _ _. refl }
  dropped (suc k) h = turn k h (in_order (drop_head l moving p) k h) (dropped k h)
