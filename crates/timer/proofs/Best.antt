-- Due times rise with request times: the head of least request time is the one that is due first.
use Rattle.std.specs.Prelude.{Option, None, Some}
use Rattle.std.specs.Option.{option_map}
use Rattle.std.specs.List.{filter, range_with_len, fold, reduce}
use Rattle.std.proofs.lemmas.Bool.Decides.{nat_tests}
use mathlib.Core.Path.{◌≡◌, refl, sym, ap, ◌∙◌}
use mathlib.Core.Bool.{Bool}
use mathlib.Core.List.{List, [], ◌∷◌, map}
use Prim.Native.Nat.{ℕ, ◌≤◌, min}
use native.Mathlib.Omega.{arith}
use borrow.Author.Tests.{eq-eqb, ne_eqb}
use lib.Dec.{ltb}
use Rattle.rules.specs.Common.{best}
use Rattle.rules.specs.Timer.{due}
use Rattle.rules.proofs.Splits.{same?, less?}
use Rattle.rules.proofs.Reduced.{pick, reduced-best}

-- ---- due times

pub due-rises : (r s retry : ℕ) → r ≤ s → due r retry ≤ due s retry
unfolding due
due-rises r s retry l = same? r 0
    (λ e. rw (eq-eqb r 0 e) (omega arith))
    (λ ne. rw (ne_eqb r 0 ne, ne_eqb s 0 (λ e. omega arith)) (omega arith))

-- ---- the least time

abbrev pub sooner : (time : ℕ → ℕ) (j k : ℕ) → Bool
sooner time j k = ltb (time j) (time k)

module _ (time : ℕ → ℕ) where
  one : (b k : ℕ) → time (pick (sooner time) b k) ≡ min (time b) (time k)
  one b k = grind (arith, nat_tests)

  all : (x : ℕ) (l : List ℕ) → time (fold (pick (sooner time)) x l) ≡ fold min (time x) (map time l)
  all x [] = refl
  all x (k ∷ l) = all (pick (sooner time) x k) l ∙ ap (λ m. fold min m (map time l)) (one x k)

  least : (l : List ℕ) → option_map time (reduce (pick (sooner time)) l) ≡ reduce min (map time l)
  least [] = refl
  least (x ∷ l) = ap Some (all x l)

module _ (time : ℕ → ℕ) (retry : ℕ) where
  abbrev due_at : ℕ → ℕ
  due_at k = due (time k) retry

  due-min : (r s : ℕ) → due (min r s) retry ≡ min (due r retry) (due s retry)
  due-min r s = less? r s
      (λ l. let m : min r s ≡ r = omega arith in let d = due-rises r s retry (omega arith) in rw m (omega (arith, d)))
      (λ l. let m : min r s ≡ s = omega arith in let d = due-rises s r retry l in rw m (omega (arith, d)))

  due-all : (r : ℕ) (l : List ℕ) → due (fold min r (map time l)) retry ≡ fold min (due r retry) (map due_at l)
  due-all r [] = refl
  due-all r (k ∷ l) = due-all (min r (time k)) l ∙ ap (λ m. fold min m (map due_at l)) (due-min r (time k))

  due-reduced : (l : List ℕ) → option_map (λ t. due t retry) (reduce min (map time l)) ≡ reduce min (map due_at l)
  due-reduced [] = refl
  due-reduced (x ∷ l) = ap Some (due-all (time x) l)

  twice : (o : Option ℕ) → option_map due_at o ≡ option_map (λ t. due t retry) (option_map time o)
  twice None = refl
  twice (Some k) = refl

  pub due-least : (test : ℕ → Bool) (n : ℕ) → option_map due_at (best test (sooner time) n) ≡ option_map due_at (best test (sooner due_at) n)
  due-least test n =
      let l = filter test (map (λ k. k) (range_with_len 0 n)) in
      rw (← reduced-best (sooner time) test n, ← reduced-best (sooner due_at) test n)
      (twice (reduce (pick (sooner time)) l) ∙ ap (option_map (λ t. due t retry)) (least time l) ∙ due-reduced l ∙ sym (least due_at l))
