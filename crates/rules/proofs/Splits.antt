-- Case splits on a test with its equation in hand, and what is_occupied of `&&` and `is_some`.
use mathlib.Core.Path.{◌≡◌, refl}
use mathlib.Core.Logic.{◌≢◌}
use mathlib.Core.Bool.{Bool, true, false, ◌&&◌}
use Rattle.std.specs.Prelude.{Option, None, Some, is_some}
use Prim.Native.Nat.{ℕ, ◌<◌, ◌≤◌}
use native.Mathlib.Omega.{arith}
use lib.Dec.{eqb, ltb}
use borrow.Author.Tests.{ltb-true, ltb-false, eqb-true, eqb-false}

pub split {ℓ} : {A : Type ℓ} (b : Bool) → (b ≡ true → A) → (b ≡ false → A) → A
split true f g = f refl
split false f g = g refl

pub same? {ℓ} : {A : Type ℓ} (a b : ℕ) → (a ≡ b → A) → (a ≢ b → A) → A
same? a b f g = split (eqb a b) (λ e. f (eqb-true a b e)) (λ e. g (eqb-false a b e))

pub less? {ℓ} : {A : Type ℓ} (a b : ℕ) → (a < b → A) → (b ≤ a → A) → A
less? a b f g = split (ltb a b) (λ e. f (ltb-true a b e)) (λ e. g (ltb-false a b e))

pub option? {ℓ} : {A : Type ℓ} (o : Option ℕ) → (o ≡ None → A) → ((i : ℕ) → o ≡ Some i → A) → A
option? None f g = f refl
option? (Some i) f g = g i refl

pub true-not-false {ℓ} : {A : Type ℓ} {b : Bool} → b ≡ true → b ≡ false → A
true-not-false e f = let z : ◌≡◌ {A = ℕ} 0 1 = cc in absurd (omega arith)

pub some-not-none {ℓ} : {A : Type ℓ} {o : Option ℕ} {i : ℕ} → o ≡ Some i → o ≡ None → A
some-not-none e f = let z : ◌≡◌ {A = ℕ} 0 1 = cc in absurd (omega arith)

pub not_some : (o : Option ℕ) → is_some o ≡ false → o ≡ None
not_some None e = refl
not_some (Some i) e = true-not-false {b = true} refl e

pub and-true : (a b : Bool) → (a && b) ≡ true → (a ≡ true) × (b ≡ true)
and-true true b e = (refl, e)
and-true false b e = true-not-false e refl

pub and_both : (a b : Bool) → a ≡ true → b ≡ true → (a && b) ≡ true
and_both a b e f = rw (e, f)

pub and_false_r : (a b : Bool) → b ≡ false → (a && b) ≡ false
and_false_r true b e = e
and_false_r false b e = refl

pub and_true_r : (a b : Bool) → b ≡ true → (a && b) ≡ a
and_true_r true b e = e
and_true_r false b e = refl

pub and-false-l : (a b : Bool) → a ≡ false → (a && b) ≡ false
and-false-l a b e = rw e
