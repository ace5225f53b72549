-- The eviction walk as a trace of its visits, and what every walk keeps of the block table.
use mathlib.Core.Path.{◌≡◌, sym, ◌∙◌}
use mathlib.Core.Logic.{◌≢◌, inl, inr}
use mathlib.Core.Bool.{true, false}
use Prim.Native.Nat.{ℕ, zero, suc, ◌-◌, ◌≤◌, ◌<◌, max}
use native.Mathlib.Omega.{arith}
use lib.Seq.{set-set}
use borrow.Author.Tests.{ne_eqb}
use Rattle.rules.specs.Common.{count_below}
use Rattle.rules.specs.Records.{Blocks, put_block, erase}
use Rattle.rules.specs.BlockTable.{adjusted, adjust_counts, adjust, delete, minus_one}
use Rattle.rules.specs.Eviction.{evict_from}
use Rattle.rules.specs.Promises.{children_of}
use Rattle.rules.proofs.Splits.{split, same?, true-not-false}
use Rattle.rules.proofs.Kept.Counting.{zero?, count-drop, count-le}
use Rattle.rules.proofs.Kept.Table.{size, parent_of, count_of, is_occupied, is_active, set_count, Shape, Linked, Kept, occupied-lt, childless}
use Rattle.rules.proofs.Kept.Slots.{but-seq, but-parent, but-count, but-chain, but-occupied, erase-but, erase-empty, erase-kids-other, erase-kids-parent, count-but, count-here, count-kids, Voids, but-voids, erase-voids}

-- ---- the walk, case by case

lowered : (t : Blocks) (i : ℕ) → is_occupied t i ≡ true → adjust t i minus_one ≡ set_count t i (count_of t i - 1)
unfolding adjust adjust_counts adjusted
lowered t i o = rw o

lowered-erased : (t : Blocks) (i : ℕ) → is_occupied t i ≡ true → delete (adjust t i minus_one) i ≡ erase t i
unfolding delete put_block
lowered-erased t i o = rw (lowered t i o, o) (rw (set-set t.counts i (count_of t i - 1) 0))

module _ (f : ℕ) (t : Blocks) (i : ℕ) where
  evict-empty : is_occupied t i ≡ false → evict_from (suc f) t i ≡ t
  unfolding evict_from
  evict-empty e = rw e

  evict-active : is_occupied t i ≡ true → is_active t i ≡ true → evict_from (suc f) t i ≡ set_count t i (count_of t i - 1)
  unfolding evict_from
  evict-active e a = rw (e, a) (lowered t i e)

  evict-free : is_occupied t i ≡ true → is_active t i ≡ false → count_of t i - 1 ≡ 0 → evict_from (suc f) t i ≡ evict_from f (erase t i) (parent_of t i)
  unfolding evict_from adjusted
  evict-free e a c = rw (e, a, c) (rw (lowered-erased t i e))

  evict-stop : (k : ℕ) → is_occupied t i ≡ true → is_active t i ≡ false → count_of t i - 1 ≡ suc k → evict_from (suc f) t i ≡ set_count t i (suc k)
  unfolding evict_from adjusted
  evict-stop k e a c = rw (e, a, ne_eqb (count_of t i - 1) 0 (omega arith)) (lowered t i e ∙ rw c)

-- ---- the trace

-- all is kept but the count of i, which is one more than its children
pub record Owed (t : Blocks) (i : ℕ) : Type 0 where
  pub shape : Shape t
  pub linked : Linked t
  pub voids : Voids t
  pub others : (j : ℕ) → j ≢ i → is_occupied t j ≡ true → is_active t j ≡ false → count_of t j ≡ max 1 (children_of t j)
  pub here : is_occupied t i ≡ true → is_active t i ≡ false → count_of t i ≡ suc (children_of t i)

-- `Freed t i u`: the walk that visits i in t leaves u
pub data Freed : Blocks → ℕ → Blocks → Type 0 where
  off : (t : Blocks) (i : ℕ) → is_occupied t i ≡ false → Freed t i t
  keeps : (t : Blocks) (i c : ℕ) → is_occupied t i ≡ true → (is_active t i ≡ false → (c ≡ children_of t i) × (0 < c)) → Freed t i (set_count t i c)
  frees : (t : Blocks) (i : ℕ) (u : Blocks) → is_occupied t i ≡ true → is_active t i ≡ false → children_of t i ≡ 0 → Freed (erase t i) (parent_of t i) u → Freed t i u

erase-linked : (t : Blocks) (i : ℕ) → children_of t i ≡ 0 → Linked t → Linked (erase t i)
erase-linked t i h l j o = same? j i
    (λ q. true-not-false {b = is_occupied (erase t i) j} o (rw q (erase-empty t i)))
    (λ ne.
    let b = erase-but t i in
    let o' : is_occupied t j ≡ true = sym (but-occupied t (erase t i) i b j ne) ∙ o in
    rw (but-parent t (erase t i) i b j ne, but-seq t (erase t i) i b j ne) (elim (l j o') [
      | inl e ↦ inl e
      | inr p ↦
          let pne : parent_of t j ≢ i = childless t i j h o' in
          inr (rw (but-occupied t (erase t i) i b (parent_of t j) pne) p.0, rw (but-seq t (erase t i) i b (parent_of t j) pne) p.1)
    ]))

owed-erase : (t : Blocks) (i : ℕ) → Owed t i → is_occupied t i ≡ true → children_of t i ≡ 0 → Owed (erase t i) (parent_of t i)
owed-erase t i w oi h = let b = erase-but t i in
    record {
      shape = b.shapes w.shape;
      linked = erase-linked t i h w.linked;
      voids = erase-voids t i w.shape oi w.voids;
      others = λ j ne o a. same? j i
          (λ q. true-not-false {b = is_occupied (erase t i) j} o (rw q (erase-empty t i)))
          (λ nj.
          rw (but-count t (erase t i) i b j nj, erase-kids-other t i j (λ q. ne (sym q)))
          (w.others j nj (sym (but-occupied t (erase t i) i b j nj) ∙ o) (sym (but-chain t (erase t i) i b j nj) ∙ a)));
      here = λ o a.
          let p = parent_of t i in
          let np : parent_of t i ≢ i = childless t i i h oi in
          let e : count_of t p ≡ max 1 (children_of t p) = w.others p np (sym (but-occupied t (erase t i) i b p np) ∙ o) (sym (but-chain t (erase t i) i b p np) ∙ a) in
          rw (but-count t (erase t i) i b p np) (omega (arith, erase-kids-parent t i oi));
    }

occupied_count : Blocks → ℕ
occupied_count t = count_below (λ j. is_occupied t j) (size t)

erase-total : (t : Blocks) (i : ℕ) → is_occupied t i ≡ true → occupied_count t ≡ suc (occupied_count (erase t i))
unfolding occupied_count
erase-total t i o = rw (erase-but t i).sizes (count-drop (λ j. is_occupied t j) (λ j. is_occupied (erase t i) j) (size t) i (occupied-lt t i o) o (erase-empty t i) (λ j l ne. sym (but-occupied t (erase t i) i (erase-but t i) j ne)))

-- the walk has enough visits where they are no fewer than the occupied blocks
walk-freed : (f : ℕ) (t : Blocks) (i : ℕ) → Owed t i → occupied_count t ≤ f → Freed t i (evict_from f t i)
unfolding evict_from
walk-freed zero t i w n = off t i (split (is_occupied t i)
    (λ o. absurd (omega (arith, erase-total t i o)))
    (λ e. e))
walk-freed (suc f) t i w n = split (is_occupied t i)
    (λ o. split (is_active t i)
    (λ a. rw (evict-active f t i o a) (keeps t i (count_of t i - 1) o (λ b. true-not-false {b = is_active t i} a b)))
    (λ a. zero? (count_of t i - 1)
    (λ c. rw (evict-free f t i o a c)
    (let h : children_of t i ≡ 0 = omega (arith, w.here o a) in
    frees t i (evict_from f (erase t i) (parent_of t i)) o a h
    (walk-freed f (erase t i) (parent_of t i) (owed-erase t i w o h) (omega (arith, erase-total t i o)))))
    (λ k c. rw (evict-stop f t i k o a c) (keeps t i (suc k) o (λ _. (omega (arith, w.here o a), omega arith))))))
    (λ e. rw (evict-empty f t i e) (off t i e))

pub all-freed : (t : Blocks) (i : ℕ) → Owed t i → Freed t i (evict_from (size t) t i)
unfolding occupied_count
all-freed t i w = walk-freed (size t) t i w (count-le (λ j. is_occupied t j) (size t))

-- ---- what is kept

-- the block is kept, and its count made true
owed-stop : (t : Blocks) (i c : ℕ) → Owed t i → is_occupied t i ≡ true → (is_active t i ≡ false → c ≡ max 1 (children_of t i)) → Kept (set_count t i c) × Voids (set_count t i c)
owed-stop t i c w o h = (
  record {
    shape = (count-but t i c).shapes w.shape;
    linked = w.linked;
    counted = λ j oj a. rw count-kids (same? j i
        (λ q. rw (q, count-here t i c w.shape o) (h (rw q at a)))
        (λ ne. rw (but-count t (set_count t i c) i (count-but t i c) j ne) (w.others j ne oj a)));
  },
  but-voids t (set_count t i c) i (count-but t i c) o w.voids,
)

pub freed-kept : (t : Blocks) (i : ℕ) (u : Blocks) → Freed t i u → Owed t i → Kept u × Voids u
freed-kept t i u (off t' i' e) w = (
  record {
    shape = w.shape;
    linked = w.linked;
    counted = λ j o a. w.others j (λ q. true-not-false {b = is_occupied t j} o (rw q e)) o a;
  },
  w.voids,
)
freed-kept t i u (keeps t' i' c o h) w = owed-stop t i c w o (λ a. omega (arith, h a))
freed-kept t i u (frees t' i' u' o a h r) w = freed-kept (erase t i) (parent_of t i) u r (owed-erase t i w o h)
