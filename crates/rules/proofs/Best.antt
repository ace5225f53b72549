-- The number that goes before all others that pass: one turn of the search, and what the number found is.
use Rattle.std.specs.Prelude.{if◌then◌else◌, Option, None, Some}
use mathlib.Core.Path.{◌≡◌, refl, sym, ◌∙◌}
use mathlib.Core.Bool.{Bool, true, false}
use Prim.Native.Nat.{ℕ, zero, suc, ◌+◌, ◌<◌}
use native.Mathlib.Numerals.{add-one}
use native.Mathlib.Omega.{arith}
use Rattle.rules.specs.Common.{better, best}
use Rattle.rules.proofs.Orders.{Strict}
use Rattle.rules.proofs.Splits.{split, same?, option?, true-not-false, some-not-none}

module _ (test : ℕ → Bool) (before : ℕ → ℕ → Bool) where
  -- ---- a turn

  pub best_none : best test before 0 ≡ None
  unfolding best
  best_none = refl

  takes : (n : ℕ) → test n ≡ true → best test before (suc n) ≡ better before n (best test before n)
  unfolding best
  takes n e = rw e

  pub best-passes : (i : ℕ) → test i ≡ true → best test before (i + 1) ≡ better before i (best test before i)
  best-passes i e = rw add-one (takes i e)

  stays : (n : ℕ) → test n ≡ false → best test before (suc n) ≡ best test before n
  unfolding best
  stays n e = rw e

  pub best-fails : (i : ℕ) → test i ≡ false → best test before (i + 1) ≡ best test before i
  best-fails i e = rw add-one (stays i e)

  pub best-next : (i : ℕ) → best test before (i + 1) ≡ (if test i then better before i (best test before i) else best test before i)
  best-next i = split (test i) (λ e. best-passes i e ∙ rw e) (λ e. best-fails i e ∙ rw e)

  -- ---- a turn, with the best so far as a flag and a number

  pub best_keeps : (any : Bool) (b k : ℕ) → best test before k ≡ (if any then Some b else None)
      → (test k ≡ true → (if any then before k b else true) ≡ false) → best test before (k + 1) ≡ (if any then Some b else None)
  unfolding better
  best_keeps true b k e h = split (test k) (λ m. best-passes k m ∙ rw (e, h m)) (λ m. best-fails k m ∙ e)
  best_keeps false b k e h = split (test k) (λ m. true-not-false {b = true} refl (h m)) (λ m. best-fails k m ∙ e)

  pub best_takes : (any : Bool) (b k : ℕ) → best test before k ≡ (if any then Some b else None)
      → test k ≡ true → (if any then before k b else true) ≡ true → best test before (k + 1) ≡ Some k
  unfolding better
  best_takes true b k e m h = best-passes k m ∙ rw (e, h)
  best_takes false b k e m h = best-passes k m ∙ rw e

  -- ---- a number that passes, by what was found before it

  first : (n : ℕ) → test n ≡ true → best test before n ≡ None → best test before (suc n) ≡ Some n
  unfolding better
  first n e q = takes n e ∙ rw q

  ahead : (n b : ℕ) → test n ≡ true → best test before n ≡ Some b → before n b ≡ true → best test before (suc n) ≡ Some n
  unfolding better
  ahead n b e q l = takes n e ∙ rw q (rw l)

  behind : (n b : ℕ) → test n ≡ true → best test before n ≡ Some b → before n b ≡ false → best test before (suc n) ≡ Some b
  unfolding better
  behind n b e q l = takes n e ∙ rw q (rw l)

  same : {o : Option ℕ} {i j : ℕ} → o ≡ Some i → o ≡ Some j → i ≡ j
  same e f = cc

  -- the ways to a number found among the first n + 1: the last one passed, alone or ahead of the one found so far, or that one stays
  cases {ℓ} : {A : Type ℓ} (n i : ℕ) → best test before (suc n) ≡ Some i
      → (test n ≡ true → i ≡ n → best test before n ≡ None → A)
      → (test n ≡ true → i ≡ n → (b : ℕ) → best test before n ≡ Some b → before n b ≡ true → A)
      → (best test before n ≡ Some i → (test n ≡ true → before n i ≡ false) → A)
      → A
  cases n i e alone over old = split (test n)
      (λ t. option? (best test before n)
      (λ q. alone t (same e (first n t q)) q)
      (λ b q. split (before n b)
      (λ l. over t (same e (ahead n b t q l)) b q l)
      (λ l. let p : i ≡ b = same e (behind n b t q l) in old (rw p q) (λ _. rw p l))))
      (λ f. old (sym (stays n f) ∙ e) (λ t. true-not-false {b = test n} t f))

  -- ---- what is found passes, and is below n

  pub best-holds : (n i : ℕ) → best test before n ≡ Some i → (i < n) × (test i ≡ true)
  best-holds zero i e = some-not-none {o = best test before 0} {i = i} e best_none
  best-holds (suc n) i e = cases n i e
      (λ t p q. (omega arith, rw p t))
      (λ t p b q l. (omega arith, rw p t))
      (λ q l. let r = best-holds n i q in (omega arith, r.1))

  -- ---- nothing is found exactly when none passes

  pub best-nothing : (n : ℕ) → ((i : ℕ) → i < n → test i ≡ false) → best test before n ≡ None
  best-nothing zero h = best_none
  best-nothing (suc n) h = stays n (h n (omega arith)) ∙ best-nothing n (λ i l. h i (omega arith))

  pub best-misses : (n i : ℕ) → best test before n ≡ None → i < n → test i ≡ false
  best-misses zero i e l = absurd (omega arith)
  best-misses (suc n) i e l = split (test n)
      (λ t. option? (best test before n)
      (λ q. some-not-none {o = best test before (suc n)} {i = n} (first n t q) e)
      (λ b q. split (before n b)
      (λ k. some-not-none {o = best test before (suc n)} {i = n} (ahead n b t q k) e)
      (λ k. some-not-none {o = best test before (suc n)} {i = b} (behind n b t q k) e)))
      (λ f. same? i n (λ p. rw p f) (λ ne. best-misses n i (sym (stays n f) ∙ e) (omega arith)))

  -- ---- in a strict order no number that passes goes before the one found

  module _ (strict : Strict before) where
    pub best-first : (n i j : ℕ) → best test before n ≡ Some i → j < n → test j ≡ true → before j i ≡ false
    best-first zero i j e l t = absurd (omega arith)
    best-first (suc n) i j e l t = cases n i e
        (λ u p q. same? j n
        (λ r. rw (r, p) (strict.irreflexive n))
        (λ ne. true-not-false {b = test j} t (best-misses n j q (omega arith))))
        (λ u p b q a. same? j n
        (λ r. rw (r, p) (strict.irreflexive n))
        (λ ne. split (before j n)
        (λ g. true-not-false {b = before j b} (strict.transitive j n b g a) (best-first n b j q (omega arith) t))
        (λ g. rw p g)))
        (λ q a. same? j n
        (λ r. rw r (a (rw (← r) t)))
        (λ ne. best-first n i j q (omega arith) t))

    -- it goes before each lower one that passes: of equals it is the lowest
    pub best-lowest : (n i j : ℕ) → best test before n ≡ Some i → j < i → test j ≡ true → before i j ≡ true
    best-lowest zero i j e l t = some-not-none {o = best test before 0} {i = i} e best_none
    best-lowest (suc n) i j e l t = cases n i e
        (λ u p q. true-not-false {b = test j} t (best-misses n j q (omega arith)))
        (λ u p b q a. split (before n j)
        (λ g. rw p g)
        (λ g. true-not-false {b = before n b} a (strict.ties n j b g (best-first n b j q (omega arith) t))))
        (λ q a. best-lowest n i j q l t)
