-- A block has no more children than there are heads, and one more: each child has a childless block of its own above it.
use mathlib.Core.Path.{◌≡◌, refl, sym, ◌∙◌}
use mathlib.Core.Logic.{◌≢◌, ◌⊎◌, inl, inr}
use mathlib.Core.Bool.{true}
use Prim.Native.Nat.{ℕ, suc, ◌≤◌, ◌<◌}
use native.Mathlib.Omega.{arith}
use lib.Dec.{eqb}
use borrow.Author.Tests.{eqb-true}
use Rattle.rules.specs.Records.{NONE, Blocks, Heads, occupied}
use Rattle.rules.specs.Promises.{is_child, children_of}
use Rattle.rules.proofs.Splits.{split, same?, and-true}
use Rattle.rules.proofs.Kept.Counting.{count-le, count-rel}
use Rattle.rules.proofs.Kept.Table.{size, seq_of, parent_of, is_occupied, is_active, Shape, Linked, occupied-real, childless, parent-there}
use Rattle.rules.proofs.Kept.Ends.{Above, here, up, leaf, height}
use Rattle.rules.proofs.Kept.Seats.{room, tip_of, in_use, use-lt}
use Rattle.rules.proofs.Kept.Frame.{Frame}

module _ (t : Blocks) (s : Shape t) (l : Linked t) where
  pub above-occupied : (i j : ℕ) → Above t i j → is_occupied t i ≡ true → is_occupied t j ≡ true
  above-occupied i j here o = o
  above-occupied i j (up k p x) o = p

  pub above-seq : (i j : ℕ) → Above t i j → is_occupied t i ≡ true → seq_of t i ≤ seq_of t j
  above-seq i j here o = omega arith
  above-seq i j (up k p x) o =
      let n : parent_of t k ≢ NONE = occupied-real t (parent_of t k) s (above-occupied i (parent_of t k) x o) in
      omega (arith, above-seq i (parent_of t k) x o, (parent-there t k l p n).1)

  -- of the blocks below j, one has a given sequence
  pub above-one : (a b j : ℕ) → is_occupied t a ≡ true → is_occupied t b ≡ true → seq_of t a ≡ seq_of t b → Above t a j → Above t b j → a ≡ b
  above-one a b j oa ob e here here = refl
  above-one a b j oa ob e here (up k o y) =
      let n : parent_of t a ≢ NONE = occupied-real t (parent_of t a) s (above-occupied b (parent_of t a) y ob) in
      absurd (omega (arith, above-seq b (parent_of t a) y ob, (parent-there t a l o n).1))
  above-one a b j oa ob e (up k o x) here =
      let n : parent_of t b ≢ NONE = occupied-real t (parent_of t b) s (above-occupied a (parent_of t b) x oa) in
      absurd (omega (arith, above-seq a (parent_of t b) x oa, (parent-there t b l o n).1))
  above-one a b j oa ob e (up k o x) (up m p y) = above-one a b (parent_of t j) oa ob e x y

module _ (t : Blocks) (h : Heads) (active_head : ℕ) (C : ℕ → Type 0) (g : Frame t h active_head C) (all : (i : ℕ) → C i) where
  -- the partner of a child: the head above it, or the one more
  Partner : ℕ → ℕ → Type 0
  Partner c s = ((in_use h s ≡ true) × Above t c (tip_of h s)) ⊎ ((s ≡ room h) × Above t c active_head)

  partner : (c : ℕ) → is_occupied t c ≡ true → (s : ℕ) × (s < suc (room h)) × (true ≡ true) × Partner c s
  unfolding Partner
  partner c o = go (leaf (suc (height t c)) t c g.counts.linked g.counts.shape o (omega arith))
    where
      go : (j : ℕ) × (is_occupied t j ≡ true) × (children_of t j ≡ 0) × Above t c j → (s : ℕ) × (s < suc (room h)) × (true ≡ true) × Partner c s
      go (j, oj, z, x) = split (is_active t j)
          (λ a. (room h, omega arith, refl, inr (refl, rw (same? j active_head (λ q. q) (λ ne. let k = g.chained j oj a ne in absurd (childless t j k.0 z k.1 k.3))) at x)))
          (λ a. let (s, u, q) = g.covered j (all j) oj a z in (s, omega (arith, use-lt h s u), refl, inl (u, rw q x)))

  siblings : (i a b s : ℕ) → i ≢ NONE → is_occupied t a ≡ true → is_occupied t b ≡ true → parent_of t a ≡ i → parent_of t b ≡ i → Partner a s → Partner b s → a ≡ b
  unfolding Partner
  siblings i a b s ni oa ob pa pb ra rb = go ra rb
    where
      seqs : (x : ℕ) → is_occupied t x ≡ true → parent_of t x ≡ i → suc (seq_of t i) ≡ seq_of t x
      seqs x ox px = rw px at (parent-there t x g.counts.linked ox (rw px ni)).1

      one : (j : ℕ) → Above t a j → Above t b j → a ≡ b
      one j = above-one t g.counts.shape g.counts.linked a b j oa ob (sym (seqs a oa pa) ∙ seqs b ob pb)

      go : Partner a s → Partner b s → a ≡ b
      go (inl (u, x)) (inl (w, y)) = one (tip_of h s) x y
      go (inl (u, x)) (inr (q, y)) = absurd (omega (arith, use-lt h s u))
      go (inr (q, x)) (inl (u, y)) = absurd (omega (arith, use-lt h s u))
      go (inr (q, x)) (inr (r, y)) = one active_head x y

  pub children-bound : (i : ℕ) → i ≢ NONE → children_of t i ≤ suc (room h)
  unfolding children_of occupied
  children-bound i ni = omega (
    arith,
    count-rel (is_child t i) (λ _. true) (size t) (suc (room h)) Partner
        (λ j l e. partner j (and-true (is_occupied t j) (eqb (parent_of t j) i) e).0)
        (λ a b s _ _ ea eb ra rb.
        let ca = and-true (is_occupied t a) (eqb (parent_of t a) i) ea in
        let cb = and-true (is_occupied t b) (eqb (parent_of t b) i) eb in
        siblings i a b s ni ca.0 cb.0 (eqb-true (parent_of t a) i ca.1) (eqb-true (parent_of t b) i cb.1) ra rb),
    count-le (λ _. true) (suc (room h)),
  )
