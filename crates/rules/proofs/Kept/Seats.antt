-- The head table as the proofs read it: one head changes and the others stay.
use mathlib.Core.Path.{◌≡◌, sym, ap, ◌∙◌}
use mathlib.Core.Logic.{◌≢◌}
use mathlib.Core.Bool.{Bool, true, false, not}
use Prim.Native.Nat.{ℕ, ◌*◌, ◌≤◌, ◌<◌}
use native.Mathlib.Omega.{arith}
use lib.Dec.{eqb}
use lib.ListN.{length, length-set, get_or-eq_default}
use lib.Seq.{get_or-set_same, get_or-set_other}
use borrow.Author.Tests.{eqb-true, eqb-false, ne_eqb, not-true, not-false}
use Rattle.rules.specs.Hashes.{hash_length}
use Rattle.rules.specs.Records.{NONE, Heads, tip_at, used, slots_of, bit0, empty_head, put_head, clear, head_at}
use Rattle.rules.specs.Anchor.{Anchor, connection, tail}
use Rattle.rules.specs.declared.Head.{Head}
use Rattle.rules.specs.Calls.{min_heads, max_heads}
use Rattle.rules.proofs.Splits.{same?, less?, true-not-false}
use Rattle.rules.proofs.Cells.{getD-set-default}
use Rattle.rules.proofs.Kept.Bytes.{put-hash-other, put-hash-here, put-hash-length, zero-length}

abbrev pub room : Heads → ℕ
room h = length h.tips

abbrev pub tip_of : Heads → ℕ → ℕ
tip_of h k = tip_at h.tips k

abbrev pub in_use : Heads → ℕ → Bool
in_use h k = used h.tips k

-- the anchor that a flag and a slot stand for
unfoldable pub anchor_of : Bool → ℕ → Anchor
anchor_of true i = connection i
anchor_of false i = tail i

unfoldable pub kept_by : Head → Anchor
kept_by head = anchor_of (bit0 head.connected) head.tail.0

abbrev pub kept : Heads → ℕ → Anchor
kept h k = kept_by (head_at h k)

pub record Room (h : Heads) : Type 0 where
  pub two : min_heads ≤ room h
  pub few : room h ≤ max_heads
  pub tailed : length h.tails ≡ room h
  pub missed : length h.missing ≡ room h * hash_length
  pub asked : length h.requested ≡ room h
  pub arrived : length h.arrivals ≡ room h
  pub flagged : length h.connected ≡ room h

-- ---- tests as facts

module _ (h : Heads) (k : ℕ) where
  pub use-ne : in_use h k ≡ true → tip_of h k ≢ NONE
  unfolding used
  use-ne e = eqb-false (tip_of h k) NONE (not-true (eqb (tip_of h k) NONE) e)

  pub ne-use : tip_of h k ≢ NONE → in_use h k ≡ true
  unfolding used
  ne-use e = rw (ne_eqb (tip_of h k) NONE e)

  pub free-eq : in_use h k ≡ false → tip_of h k ≡ NONE
  unfolding used
  free-eq e = eqb-true (tip_of h k) NONE (not-false (eqb (tip_of h k) NONE) e)

  pub use-lt : in_use h k ≡ true → k < room h
  use-lt e = less? k (room h) (λ l. l) (λ l. absurd (use-ne e (get_or-eq_default h.tips NONE l)))

pub head-slots : (h : Heads) → Room h → slots_of h.tips ≡ room h
unfolding slots_of
head-slots h r = let k = r.few in omega arith

-- ---- one head changes

-- the same head in a slot of both tables
pub record SameHead (h u : Heads) (r : ℕ) : Type 0 where
  pub tip : tip_of u r ≡ tip_of h r
  pub busy : in_use u r ≡ in_use h r
  pub anchor : kept u r ≡ kept h r

pub same_head : (h u : Heads) (r : ℕ) → head_at u r ≡ head_at h r → SameHead h u r
unfolding head_at used
same_head h u r e = record {
  tip = ap (λ (x : Head). x.tip.0) e;
  busy = ap (λ (x : Head). not (eqb x.tip.0 NONE)) e;
  anchor = ap kept_by e;
}

-- u is h but for slot k, whose tip is x
pub record Seat (h u : Heads) (k x : ℕ) : Type 0 where
  pub roomy : Room h → Room u
  pub rooms : room u ≡ room h
  pub here : k < room h → tip_of u k ≡ x
  pub rest : (r : ℕ) → r ≢ k → head_at u r ≡ head_at h r

module _ (h u : Heads) (k x : ℕ) (s : Seat h u k x) where
  module _ (r : ℕ) (ne : r ≢ k) where
    pub seat-tip : tip_of u r ≡ tip_of h r
    seat-tip = (same_head h u r (s.rest r ne)).tip

    pub seat-use : in_use u r ≡ in_use h r
    seat-use = (same_head h u r (s.rest r ne)).busy

    pub seat-kept : kept u r ≡ kept h r
    seat-kept = (same_head h u r (s.rest r ne)).anchor

  pub seat-taken : k < room h → x ≢ NONE → in_use u k ≡ true
  seat-taken l n = ne-use u k (rw (s.here l) n)

pub seat-trans : (h u v : Heads) (k x y : ℕ) → Seat h u k x → Seat u v k y → Seat h v k y
seat-trans h u v k x y a b = record {
  roomy = λ r. b.roomy (a.roomy r);
  rooms = b.rooms ∙ a.rooms;
  here = λ l. b.here (rw a.rooms l);
  rest = λ r ne. b.rest r ne ∙ a.rest r ne;
}

-- empty heads are the fixed record
abbrev pub Blanks : Heads → Type 0
Blanks h = (k : ℕ) → in_use h k ≡ false → head_at h k ≡ empty_head

pub seat-blanks : (h u : Heads) (k x : ℕ) → Seat h u k x → in_use u k ≡ true → Blanks h → Blanks u
seat-blanks h u k x s o v r e = same? r k
    (λ q. true-not-false {b = in_use u k} o (rw q at e))
    (λ ne. s.rest r ne ∙ v r (sym (seat-use h u k x s r ne) ∙ e))

-- ---- a whole head

module _ (h : Heads) (k : ℕ) (head : Head) (len : length head.missing ≡ hash_length) where
  pub put-seat : Seat h (put_head h k head) k head.tip.0
  unfolding put_head head_at
  put-seat = record {
    roomy = λ r. record {
      two = simp length-set r.two;
      few = simp length-set r.few;
      tailed = simp length-set r.tailed;
      missed = rw (put-hash-length h.missing head.missing k len) (simp length-set r.missed);
      asked = simp length-set r.asked;
      arrived = simp length-set r.arrived;
      flagged = simp length-set r.flagged;
    };
    rooms = length-set h.tips k head.tip.0;
    here = λ l. get_or-set_same h.tips k head.tip.0 NONE l;
    rest = λ r ne. rw (
      get_or-set_other h.tips k r head.tip.0 NONE ne,
      get_or-set_other h.tails k r head.tail.0 NONE ne,
      put-hash-other h.missing head.missing k len r ne,
      get_or-set_other h.requested k r head.requested 0 ne,
      get_or-set_other h.arrivals k r head.arrival 0 ne,
      get_or-set_other h.connected k r head.connected 0 ne,
    );
  }

  pub put-head : Room h → k < room h → head_at (put_head h k head) k ≡ head
  unfolding put_head head_at
  put-head r l = rw (
    get_or-set_same h.tips k head.tip.0 NONE l,
    get_or-set_same h.tails k head.tail.0 NONE (omega (arith, r.tailed)),
    put-hash-here h.missing head.missing k len (omega (arith, r.missed)),
    get_or-set_same h.requested k head.requested 0 (omega (arith, r.asked)),
    get_or-set_same h.arrivals k head.arrival 0 (omega (arith, r.arrived)),
    get_or-set_same h.connected k head.connected 0 (omega (arith, r.flagged)),
  )

module _ (h : Heads) (k : ℕ) where
  pub clear-seat : Seat h (clear h k) k NONE
  clear-seat = put-seat h k _ zero-length

  pub clear-here : in_use (clear h k) k ≡ false
  unfolding used put_head
  clear-here = rw (getD-set-default h.tips k NONE)

  -- a head in use after was in use before, and is another
  pub clear-other : (r : ℕ) → in_use (clear h k) r ≡ true → (r ≢ k) × (in_use h r ≡ true)
  clear-other r u =
      let ne : r ≢ k = λ q. true-not-false {b = in_use (clear h k) r} u (rw q clear-here) in
      (ne, sym (seat-use h (clear h k) k NONE clear-seat r ne) ∙ u)

  pub clear-blanks : Room h → in_use h k ≡ true → Blanks h → Blanks (clear h k)
  clear-blanks m o v r e = same? r k
      (λ q. rw q (put-head h k _ zero-length m (use-lt h k o)))
      (λ ne. clear-seat.rest r ne ∙ v r (sym (seat-use h (clear h k) k NONE clear-seat r ne) ∙ e))
