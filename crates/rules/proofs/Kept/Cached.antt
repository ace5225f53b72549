-- Single fields of a head: its tip, its arrival time, and its caches as they are worked out.
use mathlib.Core.Path.{◌≡◌, refl}
use mathlib.Core.Bool.{true, false}
use mathlib.Core.List.{List}
use Prim.Native.Nat.{ℕ, ◌+◌, ◌*◌, ◌/◌, ◌%◌, ◌<◌}
use native.Mathlib.Omega.{arith}
use lib.ListN.{length, get_or, set, length-set}
use lib.Seq.{get_or-set_same, get_or-set_other}
use borrow.Author.Tests.{eq-eqb, ne_eqb}
use Rattle.rules.specs.Hashes.{hash_length, hash_at, zero_hash}
use Rattle.rules.specs.Records.{NONE, Blocks, Heads, bit0, with_bit0, caches, with_caches, with_tips, with_arrivals, head_at}
use Rattle.rules.specs.Anchor.{Anchor, connection, tail}
use Rattle.rules.specs.Caches.{keep, recompute, recompute_head, knowing, missing_part}
use Rattle.rules.proofs.Hashes.{hash-length}
use Rattle.rules.proofs.Kept.Bytes.{put-hash-other, put-hash-length, zero-length}
use Rattle.rules.proofs.Kept.Ends.{located}
use Rattle.rules.proofs.Kept.Seats.{room, tip_of, kept, kept_by, anchor_of, Room, Seat}

-- ---- a tip, an arrival time

module _ (h : Heads) (k x : ℕ) where
  pub tip-seat : Seat h (with_tips h (set h.tips k x)) k x
  unfolding head_at
  tip-seat = record {
    roomy = λ r. record {
      two = simp length-set r.two;
      few = simp length-set r.few;
      tailed = simp length-set r.tailed;
      missed = simp length-set r.missed;
      asked = simp length-set r.asked;
      arrived = simp length-set r.arrived;
      flagged = simp length-set r.flagged;
    };
    rooms = length-set h.tips k x;
    here = λ l. get_or-set_same h.tips k x NONE l;
    rest = λ r ne. rw (get_or-set_other h.tips k r x NONE ne);
  }

  pub arrival-seat : Seat h (with_arrivals h (set h.arrivals k x)) k (tip_of h k)
  unfolding head_at
  arrival-seat = record {
    roomy = λ r. record { two = r.two; few = r.few; tailed = r.tailed; missed = r.missed; asked = r.asked; arrived = simp length-set r.arrived; flagged = r.flagged };
    rooms = refl;
    here = λ _. refl;
    rest = λ r ne. rw (get_or-set_other h.arrivals k r x 0 ne);
  }

-- ---- the caches of a head

bit-on : (b : ℕ) → bit0 (with_bit0 b true) ≡ true
bit-on b = eq-eqb ((b / 2 * 2 + 1) % 2) 1 (omega arith)

bit-off : (b : ℕ) → bit0 (with_bit0 b false) ≡ false
bit-off b = ne_eqb ((b / 2 * 2 + 0) % 2) 1 (omega arith)

abbrev cached : Heads → ℕ → Anchor → ℕ → List ℕ → Heads
cached h k a arriving previous = with_caches h (keep h.tips (caches h) k a arriving previous)

cached-seat : (h : Heads) (k : ℕ) (a : Anchor) (arriving : ℕ) (previous : List ℕ) → Seat h (cached h k a arriving previous) k (tip_of h k)
unfolding keep head_at
cached-seat h k (connection at) arriving previous = record {
  roomy = λ r. record {
    two = r.two;
    few = r.few;
    tailed = simp length-set r.tailed;
    missed = rw (put-hash-length h.missing zero_hash k zero-length) r.missed;
    asked = simp length-set r.asked;
    arrived = r.arrived;
    flagged = simp length-set r.flagged;
  };
  rooms = refl;
  here = λ _. refl;
  rest = λ r ne. rw (
    get_or-set_other h.tails k r at NONE ne,
    put-hash-other h.missing zero_hash k zero-length r ne,
    get_or-set_other h.requested k r 0 0 ne,
    get_or-set_other h.connected k r (with_bit0 (get_or h.connected k 0) true) 0 ne,
  );
}
cached-seat h k (tail at) arriving previous =
    let tails = set h.tails k at in
    let connected = set h.connected k (with_bit0 (get_or h.connected k 0) false) in
    let hash = hash_at (missing_part previous h.missing at arriving (knowing h.tips tails connected at k)) 0 in
    let len : length hash ≡ hash_length = hash-length (missing_part previous h.missing at arriving (knowing h.tips tails connected at k)) 0 in
    record {
      roomy = λ r. record {
        two = r.two;
        few = r.few;
        tailed = simp length-set r.tailed;
        missed = rw (put-hash-length h.missing hash k len) r.missed;
        asked = r.asked;
        arrived = r.arrived;
        flagged = simp length-set r.flagged;
      };
      rooms = refl;
      here = λ _. refl;
      rest = λ r ne. rw (
        get_or-set_other h.tails k r at NONE ne,
        put-hash-other h.missing hash k len r ne,
        get_or-set_other h.connected k r (with_bit0 (get_or h.connected k 0) false) 0 ne,
      );
    }

cached-kept : (h : Heads) (k : ℕ) (a : Anchor) (arriving : ℕ) (previous : List ℕ) → Room h → k < room h → kept (cached h k a arriving previous) k ≡ a
unfolding keep head_at kept_by anchor_of
cached-kept h k (connection at) arriving previous r l =
    let b = get_or h.connected k 0 in
    rw (get_or-set_same h.tails k at NONE (omega (arith, r.tailed)), get_or-set_same h.connected k (with_bit0 b true) 0 (omega (arith, r.flagged))) (rw (bit-on b))
cached-kept h k (tail at) arriving previous r l =
    let b = get_or h.connected k 0 in
    rw (get_or-set_same h.tails k at NONE (omega (arith, r.tailed)), get_or-set_same h.connected k (with_bit0 b false) 0 (omega (arith, r.flagged))) (rw (bit-off b))

module _ (t : Blocks) (h : Heads) (k arriving : ℕ) (previous : List ℕ) where
  pub recompute-seat : Seat h (recompute_head t h k arriving previous) k (tip_of h k)
  unfolding recompute
  recompute-seat = cached-seat h k (located t (tip_of h k)) arriving previous

  pub recompute-kept : Room h → k < room h → kept (recompute_head t h k arriving previous) k ≡ located t (tip_of h k)
  unfolding recompute
  recompute-kept = cached-kept h k (located t (tip_of h k)) arriving previous
