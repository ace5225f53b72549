-- The walk of the rule is visit after visit.
use mathlib.Core.Path.{◌≡◌, refl, sym, ◌∙◌}
use mathlib.Core.Logic.{◌≢◌, ◌⊎◌, inl, inr}
use mathlib.Core.Bool.{Bool, true, false}
use mathlib.Core.List.{List}
use Rattle.std.specs.Prelude.{None, Some}
use Prim.Native.Nat.{ℕ, zero, suc, ◌<◌}
use native.Mathlib.Omega.{arith}
use borrow.Author.Tests.{eq-eqb, ne_eqb}
use lib.Dec.{eqb}
use Rattle.rules.specs.Records.{Blocks, parent_at, count_at, occupied, active, with_counts}
use Rattle.rules.specs.BlockTable.{minus_one, adjusted, adjusted_at, adjust_counts, adjust, delete}
use Rattle.rules.specs.Eviction.{evict_from}
use Rattle.rules.proofs.Splits.{split, some-not-none}
use Rattle.eviction.specs.Visit.{visited, goes_on, Visits}

pub walk-spent : (b whole : Blocks) (i k : ℕ) → k ≡ 0 → whole ≡ evict_from k b i → b ≡ whole
unfolding evict_from
walk-spent b whole i k z e = sym (e ∙ rw z refl)

module _ (b left : Blocks) (i : ℕ) where
  -- a walk that stops here
  pub walk-stops : (k : ℕ) → 0 < k → Visits b i None left → left ≡ evict_from k b i
  unfolding evict_from visited goes_on
  walk-stops zero h v = absurd (omega arith)
  walk-stops (suc k) h v = split (occupied b.sequences i)
      (λ o. split (active b.flags i)
      (λ a. v.1 ∙ rw (o, a))
      (λ a. split (eqb (adjusted (count_at b.counts i) minus_one) 0)
      (λ z. some-not-none {o = goes_on b i} {i = parent_at b.parents i} (rw (o, a, z)) (sym v.0))
      (λ z. v.1 ∙ rw (o, a, z))))
      (λ o. v.1 ∙ rw o)

  -- a walk that goes on
  pub walk-goes : (k n p : ℕ) → k ≡ suc n → Visits b i (Some p) left → evict_from k b i ≡ evict_from n left p
  unfolding evict_from visited goes_on
  walk-goes k n p e v = rw e (split (occupied b.sequences i)
      (λ o. split (active b.flags i)
      (λ a. some-not-none {o = goes_on b i} {i = p} (sym v.0) (rw (o, a)))
      (λ a. split (eqb (adjusted (count_at b.counts i) minus_one) 0)
      (λ z. let f : Some p ≡ Some (parent_at b.parents i) = rw (o, a, z) at v.0 in
      let q : p ≡ parent_at b.parents i = cc in rw (v.1, q) (rw (o, a, z)))
      (λ z. some-not-none {o = goes_on b i} {i = p} (sym v.0) (rw (o, a, z)))))
      (λ o. some-not-none {o = goes_on b i} {i = p} (sym v.0) (rw o)))

-- ---- what a visit finds, and does

module _ (b : Blocks) (i : ℕ) (counts : List ℕ) (set : counts ≡ adjust_counts b.sequences b.counts i minus_one) where
  pub visit-empty : None ≡ adjusted_at b.sequences b.counts i minus_one → Visits b i None (with_counts b counts)
  unfolding adjusted_at adjust_counts visited goes_on
  visit-empty e = split (occupied b.sequences i)
      (λ o. some-not-none {o = adjusted_at b.sequences b.counts i minus_one} {i = adjusted (count_at b.counts i) minus_one} (rw o) (sym e))
      (λ o. (rw o, rw (set, o)))

  module _ {kept : Bool} {n : ℕ} (e : Some n ≡ adjusted_at b.sequences b.counts i minus_one) (k : kept ≡ active b.flags i) where
    there : (occupied b.sequences i ≡ true) × (adjusted (count_at b.counts i) minus_one ≡ n)
    unfolding adjusted_at
    there = split (occupied b.sequences i)
        (λ o. (o, let f : Some n ≡ Some (adjusted (count_at b.counts i) minus_one) = rw o at e in cc))
        (λ o. some-not-none {o = adjusted_at b.sequences b.counts i minus_one} {i = n} (sym e) (rw o))

    pub visit-stops : (kept ≡ true) ⊎ ((kept ≡ false) × (n ≢ 0)) → Visits b i None (with_counts b counts)
    unfolding visited goes_on adjust
    visit-stops (inl a) = (rw (there.0, ← k, a), rw (there.0, ← k, a, set))
    visit-stops (inr a) =
        let f = ne_eqb (adjusted (count_at b.counts i) minus_one) 0 (λ q. a.1 (sym there.1 ∙ q)) in
        (rw (there.0, ← k, a.0, f), rw (there.0, ← k, a.0, f, set))

    pub visit-frees : kept ≡ false → n ≡ 0 → Visits b i (Some (parent_at b.parents i)) (delete (with_counts b counts) i)
    unfolding visited goes_on adjust
    visit-frees a z =
        let f = eq-eqb (adjusted (count_at b.counts i) minus_one) 0 (there.1 ∙ z) in
        (rw (there.0, ← k, a, f), rw (there.0, ← k, a, f, set))
