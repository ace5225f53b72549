-- Where a parent walk ends, without a bound on the visits; depth and height of a block; what stands above it.
use mathlib.Core.Path.{◌≡◌, refl}
use mathlib.Core.Logic.{◌≢◌}
use mathlib.Core.Bool.{Bool, true, false, ◌&&◌}
use Prim.Native.Nat.{ℕ, zero, suc, ◌<◌}
use native.Mathlib.Omega.{arith}
use lib.Dec.{eqb, ltb}
use borrow.Author.Tests.{ltb-true, eqb-true, lt-ltb, le-ltb, eq-eqb, ne_eqb}
use Rattle.rules.specs.Common.{count_below}
use Rattle.rules.specs.Records.{NONE, Blocks, occupied}
use Rattle.rules.specs.Anchor.{Anchor, connection, tail, anchor_from, locate_anchor}
use Rattle.rules.specs.Promises.{is_child, children_of}
use Rattle.rules.proofs.Splits.{split, same?, and-true, and_false_r, and_both, true-not-false}
use Rattle.rules.proofs.Kept.Counting.{zero?, count_less, count-lt, count-find}
use Rattle.rules.proofs.Kept.Table.{size, seq_of, parent_of, is_occupied, is_active, Shape, Linked, occupied-lt, occupied-real, kids-slots, parent-there}

-- the blocks lower in sequence than s
lower : Blocks → ℕ → ℕ → Bool
lower t s j = is_occupied t j && ltb (seq_of t j) s

-- how many stand below block i: falls along the parents
unfoldable pub depth : Blocks → ℕ → ℕ
unfolding lower
depth t i = count_below (lower t (seq_of t i)) (size t)

-- a lower is_occupied block is counted in one and not in the other
pub depth_falls : (t : Blocks) (i p : ℕ) → is_occupied t p ≡ true → seq_of t p < seq_of t i → depth t p < depth t i
unfolding depth lower
depth_falls t i p o h = count_less (lower t (seq_of t p)) (lower t (seq_of t i)) (size t) p (occupied-lt t p o)
    (and_false_r (is_occupied t p) (ltb (seq_of t p) (seq_of t p)) (le-ltb (seq_of t p) (seq_of t p) (omega arith)))
    (and_both (is_occupied t p) (ltb (seq_of t p) (seq_of t i)) o (lt-ltb (seq_of t p) (seq_of t i) h))
    (λ j l e. let q = and-true (is_occupied t j) (ltb (seq_of t j) (seq_of t p)) e in
    and_both (is_occupied t j) (ltb (seq_of t j) (seq_of t i)) q.0 (lt-ltb (seq_of t j) (seq_of t i) (omega (arith, ltb-true (seq_of t j) (seq_of t p) q.1))))

pub depth-lt : (t : Blocks) (i : ℕ) → is_occupied t i ≡ true → depth t i < size t
unfolding depth lower
depth-lt t i o = count-lt (lower t (seq_of t i)) (size t) i (occupied-lt t i o) (and_false_r (is_occupied t i) (ltb (seq_of t i) (seq_of t i)) (le-ltb (seq_of t i) (seq_of t i) (omega arith)))

-- the walk's end
pub data Ends (t : Blocks) : ℕ → Anchor → Type 0 where
  at-active : (i : ℕ) → is_occupied t i ≡ true → is_active t i ≡ true → Ends t i (connection i)
  at-root : (i : ℕ) → is_occupied t i ≡ true → is_active t i ≡ false → parent_of t i ≡ NONE → Ends t i (tail i)
  goes_on : (i : ℕ) {a : Anchor} → is_occupied t i ≡ true → is_active t i ≡ false → parent_of t i ≢ NONE → Ends t (parent_of t i) a → Ends t i a

module _ (t : Blocks) (visits last i : ℕ) (o : is_occupied t i ≡ true) where
  from-active : is_active t i ≡ true → anchor_from t.parents t.sequences t.flags (suc visits) last i ≡ connection i
  unfolding anchor_from
  from-active a = rw (o, a)

  from-root : is_active t i ≡ false → parent_of t i ≡ NONE → anchor_from t.parents t.sequences t.flags (suc visits) last i ≡ tail i
  unfolding anchor_from
  from-root a e = rw (o, a, eq-eqb (parent_of t i) NONE e)

  from_up : is_active t i ≡ false → parent_of t i ≢ NONE
      → anchor_from t.parents t.sequences t.flags (suc visits) last i ≡ anchor_from t.parents t.sequences t.flags visits i (parent_of t i)
  unfolding anchor_from
  from_up a ne = rw (o, a, ne_eqb (parent_of t i) NONE ne)

walk_ends : (f : ℕ) (t : Blocks) (last i : ℕ) → Linked t → is_occupied t i ≡ true → depth t i < f → Ends t i (anchor_from t.parents t.sequences t.flags f last i)
walk_ends zero t last i l o d = absurd (omega arith)
walk_ends (suc f) t last i l o d = split (is_active t i)
    (λ a. rw (from-active t f last i o a) (at-active i o a))
    (λ a. same? (parent_of t i) NONE
    (λ e. rw (from-root t f last i o a e) (at-root i o a e))
    (λ ne. rw (from_up t f last i o a ne) (
    let p = parent-there t i l o ne in
    goes_on i o a ne (walk_ends f t i (parent_of t i) l p.0 (omega (arith, depth_falls t i (parent_of t i) p.0 (omega arith)))))))

abbrev pub located : Blocks → ℕ → Anchor
located t i = locate_anchor t.parents t.sequences t.flags i

pub anchor-ends : (t : Blocks) (i : ℕ) → Shape t → Linked t → is_occupied t i ≡ true → Ends t i (located t i)
unfolding locate_anchor
anchor-ends t i s l o = rw (kids-slots t s) (walk_ends (size t) t i i l o (depth-lt t i o))

-- a block has one anchor
pub ends-once : (t : Blocks) (i : ℕ) (a b : Anchor) → Ends t i a → Ends t i b → a ≡ b
ends-once t i a b (at-active j o h) (at-active k p g) = refl
ends-once t i a b (at-active j o h) (at-root k p g q) = true-not-false h g
ends-once t i a b (at-active j o h) (goes_on k p g q r) = true-not-false h g
ends-once t i a b (at-root j o h n) (at-active k p g) = true-not-false g h
ends-once t i a b (at-root j o h n) (at-root k p g q) = refl
ends-once t i a b (at-root j o h n) (goes_on k p g q r) = absurd (q n)
ends-once t i a b (goes_on j o h n m) (at-active k p g) = true-not-false g h
ends-once t i a b (goes_on j o h n m) (at-root k p g q) = absurd (n q)
ends-once t i a b (goes_on j o h n m) (goes_on k p g q r) = ends-once t (parent_of t k) a b m r

-- j is i or stands above it
pub data Above (t : Blocks) (i : ℕ) : ℕ → Type 0 where
  here : Above t i i
  up : (j : ℕ) → is_occupied t j ≡ true → Above t i (parent_of t j) → Above t i j

-- how many stand above in sequence
higher : Blocks → ℕ → ℕ → Bool
higher t s j = is_occupied t j && ltb s (seq_of t j)

pub height : Blocks → ℕ → ℕ
height t i = count_below (higher t (seq_of t i)) (size t)

pub height-falls : (t : Blocks) (i j : ℕ) → is_occupied t j ≡ true → seq_of t i < seq_of t j → height t j < height t i
unfolding height higher
height-falls t i p o h = count_less (higher t (seq_of t p)) (higher t (seq_of t i)) (size t) p (occupied-lt t p o)
    (and_false_r (is_occupied t p) (ltb (seq_of t p) (seq_of t p)) (le-ltb (seq_of t p) (seq_of t p) (omega arith)))
    (and_both (is_occupied t p) (ltb (seq_of t i) (seq_of t p)) o (lt-ltb (seq_of t i) (seq_of t p) h))
    (λ j l e. let q = and-true (is_occupied t j) (ltb (seq_of t p) (seq_of t j)) e in
    and_both (is_occupied t j) (ltb (seq_of t i) (seq_of t j)) q.0 (lt-ltb (seq_of t i) (seq_of t j) (omega (arith, ltb-true (seq_of t p) (seq_of t j) q.1))))

-- a block with children_of has a child
pub some-child {ℓ} : {A : Type ℓ} (t : Blocks) (i : ℕ) → 0 < children_of t i → ((j : ℕ) → is_occupied t j ≡ true → parent_of t j ≡ i → A) → A
unfolding children_of occupied
some-child t i h k =
    let c = count-find (is_child t i) (size t) h in
    let b = and-true (is_occupied t c.0) (eqb (parent_of t c.0) i) c.2 in
    k c.0 b.0 (eqb-true (parent_of t c.0) i b.1)

pub above-trans : (t : Blocks) (i j k : ℕ) → Above t i j → Above t j k → Above t i k
above-trans t i j k a here = a
above-trans t i j k a (up m o b) = up m o (above-trans t i j (parent_of t m) a b)

pub leaf : (f : ℕ) (t : Blocks) (i : ℕ) → Linked t → Shape t → is_occupied t i ≡ true → height t i < f
    → (j : ℕ) × (is_occupied t j ≡ true) × (children_of t j ≡ 0) × Above t i j
leaf zero t i l s o h = absurd (omega arith)
leaf (suc f) t i l s o h = zero? (children_of t i)
    (λ z. (i, o, z, here))
    (λ k e. some-child t i (omega arith) (λ j oj q.
    let n : parent_of t j ≢ NONE = rw q (occupied-real t i s o) in
    let p = parent-there t j l oj n in
    let fall : seq_of t i < seq_of t j = omega (arith, rw q at p.1) in
    let r = leaf f t j l s oj (omega (arith, height-falls t i j oj fall)) in
    (r.0, r.1, r.2, above-trans t i j r.0 (up j oj (rw q here)) r.3)))
