-- What std says of two hashes compared is what the rules say of them, and that the slots are no more than the words.
use Rattle.std.specs.Prelude.{Some}
use Rattle.std.specs.Ordering.{nat_cmp, partial_lt}
use Rattle.std.specs.Cmp.Lexicographic.{slice_partial_cmp}
use mathlib.Core.Path.{◌≡◌, refl}
use mathlib.Core.List.{List, [], ◌∷◌}
use Prim.Native.Nat.{ℕ, ◌<◌, ◌≤◌}
use native.Mathlib.Omega.{arith}
use borrow.Author.Tests.{lt-ltb, le-ltb, eq-eqb, ne_eqb}
use lib.Dec.{eqb}
use lib.ListN.{length}
use lib.Pointwise.{pointwise}
use Rattle.rules.specs.Hashes.{same_hash, hash_less}
use Rattle.rules.specs.Records.{slots_of}
use Rattle.rules.proofs.Splits.{less?, same?}

pub same_is : (a b : List ℕ) → pointwise eqb a b ≡ same_hash a b
unfolding same_hash
same_is [] [] = refl
same_is [] (y ∷ b) = refl
same_is (x ∷ a) [] = refl
same_is (x ∷ a) (y ∷ b) = rw (same_is a b)

pub less_is : (a b : List ℕ) → length a ≡ length b → partial_lt (slice_partial_cmp (λ x y. Some (nat_cmp x y))) a b ≡ hash_less a b
unfolding hash_less
less_is [] [] e = refl
less_is [] (y ∷ b) e = absurd (omega arith)
less_is (x ∷ a) [] e = absurd (omega arith)
less_is (x ∷ a) (y ∷ b) e = less? x y
    (λ l. rw (lt-ltb x y l))
    (λ k. same? x y
    (λ q. rw (le-ltb x y k, le-ltb y x (omega arith), eq-eqb x y q) (less_is a b (omega arith)))
    (λ n. let l : y < x = omega arith in rw (le-ltb x y k, lt-ltb y x l, ne_eqb x y n)))

pub slots-few : (words : List ℕ) → slots_of words ≤ length words
unfolding slots_of
slots-few words = omega arith
