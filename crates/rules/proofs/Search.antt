-- The lowest number that passes, the one that goes before all others, how many pass and which: what callers use of each.
use mathlib.Core.Path.{◌≡◌, refl, sym, ap, ◌∙◌}
use mathlib.Core.Logic.{◌≢◌}
use mathlib.Core.Bool.{Bool, true, false}
use mathlib.Core.List.{[], ◌∷◌, ◌++◌, append-nil}
use Rattle.std.specs.Prelude.{None, Some}
use Prim.Native.Nat.{ℕ, zero, suc, ◌+◌, ◌<◌, ◌≤◌}
use native.Mathlib.Numerals.{add-one}
use native.Mathlib.Omega.{arith}
use lib.ListN.{length, length-append}
use Rattle.rules.specs.Common.{lowest, count_below, all_below, in_order}
use Rattle.rules.proofs.Splits.{split, same?, option?, true-not-false, some-not-none}

-- ---- the lowest

module _ (test : ℕ → Bool) where
  pub lowest-none : lowest test 0 ≡ None
  unfolding lowest
  lowest-none = refl

  lowest-fails : (n : ℕ) → lowest test n ≡ None → test n ≡ false → lowest test (suc n) ≡ None
  unfolding lowest
  lowest-fails n e f = rw (e, lowest) (rw f)

  lowest-passes : (n : ℕ) → lowest test n ≡ None → test n ≡ true → lowest test (suc n) ≡ Some n
  unfolding lowest
  lowest-passes n e f = rw (e, lowest) (rw f)

  lowest-stays : (n i : ℕ) → lowest test n ≡ Some i → lowest test (suc n) ≡ Some i
  unfolding lowest
  lowest-stays n i e = rw (e, lowest)

  -- a turn of a search that found nothing
  pub lowest-next : (i : ℕ) → lowest test i ≡ None → test i ≡ false → lowest test (i + 1) ≡ None
  lowest-next i e f = rw add-one (lowest-fails i e f)

  -- a search that goes on over numbers that do not pass
  pub lowest-skips : (i n : ℕ) → i ≤ n → lowest test i ≡ None → ((j : ℕ) → i ≤ j → j < n → test j ≡ false) → lowest test n ≡ None
  lowest-skips i zero l e h = lowest-none
  lowest-skips i (suc n) l e h = same? i (suc n)
      (λ q. rw (← q) e)
      (λ ne. lowest-fails n (lowest-skips i n (omega arith) e (λ j a b. h j a (omega arith))) (h n (omega arith) (omega arith)))

  -- the number at which a search stops
  pub lowest-at : (i n : ℕ) → lowest test i ≡ None → test i ≡ true → i < n → lowest test n ≡ Some i
  lowest-at i zero e f l = absurd (omega arith)
  lowest-at i (suc n) e f l = same? i n
      (λ q. rw (← q) (lowest-passes i e f))
      (λ ne. lowest-stays n i (lowest-at i n e f (omega arith)))

  -- what is found passes, and nothing below it does
  pub lowest-holds : (n i : ℕ) → lowest test n ≡ Some i → (i < n) × (test i ≡ true)
  lowest-holds zero i e = some-not-none {o = lowest test 0} {i = i} e lowest-none
  lowest-holds (suc n) i e = option? (lowest test n)
      (λ q. split (test n)
      (λ t. let s : Some i ≡ Some n = sym e ∙ lowest-passes n q t in let p : i ≡ n = cc in (omega arith, rw p t))
      (λ f. some-not-none {o = lowest test (suc n)} {i = i} e (lowest-fails n q f)))
      (λ j q. let s : Some i ≡ Some j = sym e ∙ lowest-stays n j q in
      let p : i ≡ j = cc in
      let r = lowest-holds n i (q ∙ sym s) in (omega arith, r.1))

  pub lowest-misses : (n i : ℕ) → lowest test n ≡ None → i < n → test i ≡ false
  lowest-misses zero i e l = absurd (omega arith)
  lowest-misses (suc n) i e l = option? (lowest test n)
      (λ q. split (test n)
      (λ t. some-not-none {o = lowest test (suc n)} {i = n} (lowest-passes n q t) e)
      (λ f. same? i n (λ p. rw p f) (λ ne. lowest-misses n i q (omega arith))))
      (λ j q. some-not-none {o = lowest test (suc n)} {i = j} (lowest-stays n j q) e)

  pub lowest-fewer : (n k : ℕ) → n ≤ k → lowest test k ≡ None → lowest test n ≡ None
  lowest-fewer n k l e = lowest-skips 0 n (omega arith) lowest-none (λ j a b. lowest-misses k j e (omega arith))

  pub lowest-least : (n i j : ℕ) → lowest test n ≡ Some i → j < i → test j ≡ false
  lowest-least zero i j e l = some-not-none {o = lowest test 0} {i = i} e lowest-none
  lowest-least (suc n) i j e l = option? (lowest test n)
      (λ q. let h = lowest-holds (suc n) i e in lowest-misses n j q (omega arith))
      (λ k q. let s : Some i ≡ Some k = sym e ∙ lowest-stays n k q in lowest-least n i j (q ∙ sym s) l)

  -- found exactly when there
  pub lowest-found : (n i : ℕ) → i < n → test i ≡ true → lowest test n ≢ None
  lowest-found n i l t e = true-not-false {b = test i} t (lowest-misses n i e l)

-- tests that agree find the same
pub lowest-ext : (p q : ℕ → Bool) (n : ℕ) → ((i : ℕ) → i < n → p i ≡ q i) → lowest p n ≡ lowest q n
lowest-ext p q zero h = lowest-none p ∙ sym (lowest-none q)
lowest-ext p q (suc n) h = option? (lowest p n)
    (λ e. let e' : lowest q n ≡ None = sym (lowest-ext p q n (λ i l. h i (omega arith))) ∙ e in
    split (p n)
    (λ t. lowest-passes p n e t ∙ sym (lowest-passes q n e' (sym (h n (omega arith)) ∙ t)))
    (λ f. lowest-fails p n e f ∙ sym (lowest-fails q n e' (sym (h n (omega arith)) ∙ f))))
    (λ i e. lowest-stays p n i e ∙ sym (lowest-stays q n i (sym (lowest-ext p q n (λ j l. h j (omega arith))) ∙ e)))

-- ---- which pass

module _ (test : ℕ → Bool) where
  pub all_none : all_below test 0 ≡ []
  unfolding all_below
  all_none = refl

  pub all-passes : (i : ℕ) → test i ≡ true → all_below test (i + 1) ≡ all_below test i ++ i ∷ []
  unfolding all_below
  all-passes i e = rw add-one (rw e)

  pub all-fails : (i : ℕ) → test i ≡ false → all_below test (i + 1) ≡ all_below test i
  unfolding all_below
  all-fails i e = rw add-one (rw e (append-nil (all_below test i)))

  pub all-few : (i : ℕ) → length (all_below test i) ≤ i
  unfolding all_below
  all-few zero = omega arith
  all-few (suc i) = split (test i)
      (λ e. rw e (omega (arith, length-append (all_below test i) (i ∷ []), all-few i)))
      (λ e. rw e (omega (arith, length-append (all_below test i) [], all-few i)))

-- ---- how many pass

module _ (test : ℕ → Bool) where
  pub count_none : count_below test 0 ≡ 0
  unfolding count_below
  count_none = refl

  pub count-passes : (i : ℕ) → test i ≡ true → count_below test (i + 1) ≡ count_below test i + 1
  unfolding count_below
  count-passes i e = rw add-one (rw e (omega arith))

  pub count-fails : (i : ℕ) → test i ≡ false → count_below test (i + 1) ≡ count_below test i
  unfolding count_below
  count-fails i e = rw add-one (rw e (omega arith))

  pub count-few : (i : ℕ) → count_below test i ≤ i
  unfolding count_below
  count-few zero = omega arith
  count-few (suc i) = split (test i) (λ e. rw e (omega (arith, count-few i))) (λ e. rw e (omega (arith, count-few i)))

-- ---- one after the other

pub in-order-none {ℓ} : {A : Type ℓ} (act : ℕ → A → A) (a : A) → in_order act 0 a ≡ a
unfolding in_order
in-order-none act a = refl

pub in-order-next {ℓ} : {A : Type ℓ} (act : ℕ → A → A) (i : ℕ) (a : A) → in_order act (i + 1) a ≡ act i (in_order act i a)
unfolding in_order
in-order-next act i a = rw add-one refl

-- one turn more, of what the turns before it have made
pub in-order-then {ℓ} : {A : Type ℓ} (act : ℕ → A → A) (i : ℕ) (was a b : A) → b ≡ act i a → a ≡ in_order act i was → b ≡ in_order act (i + 1) was
in-order-then act i was a b e d = e ∙ ap (act i) d ∙ sym (in-order-next act i was)
