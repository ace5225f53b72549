-- A number that is written is read back.
use mathlib.Core.Path.{◌≡◌, refl, ◌∙◌}
use mathlib.Core.Bool.{true, false}
use mathlib.Core.List.{List, [], ◌∷◌, ◌++◌}
use Rattle.std.specs.Prelude.{Some}
use Prim.Native.Nat.{ℕ, zero, suc, ◌+◌, ◌*◌, ◌-◌, ◌/◌, ◌^◌, ◌<◌, ◌≤◌}
use native.Mathlib.Omega.{arith}
use borrow.Author.Tests.{le-leb, ltb-true}
use lib.Dec.{ltb, leb}
use lib.ListN.{length, length-append}
use Rattle.rules.proofs.Splits.{split, and_both}
use Rattle.trial_lines.specs.Reading.{is_digit, all_digits, value_from, number, word_most, time_most}
use Rattle.trial_lines.specs.Writing.{digit, digits_in, digits}
use Rattle.trial_lines.proofs.Bytes.{number_is}

value-append : (n : ℕ) (bytes : List ℕ) (b : ℕ) → value_from n (bytes ++ b ∷ []) ≡ value_from n bytes * 10 + (b - 48)
unfolding value_from
value-append n [] b = refl
value-append n (x ∷ bytes) b = value-append (n * 10 + (x - 48)) bytes b

all_append : (bytes : List ℕ) (b : ℕ) → all_digits bytes ≡ true → is_digit b ≡ true → all_digits (bytes ++ b ∷ []) ≡ true
unfolding all_digits
all_append [] b e h = rw h
all_append (x ∷ bytes) b e h =
    split (is_digit x)
    (λ d. let r : all_digits bytes ≡ true = rw d at e in rw d (all_append bytes b r h))
    (λ d. let r : false ≡ true = rw d at e in let z : ◌≡◌ {A = ℕ} 0 1 = cc in absurd (omega arith))

digit-is : (n : ℕ) → is_digit (digit n) ≡ true
digit-is n = and_both (leb 48 (digit n)) (leb (digit n) 57) (le-leb 48 (digit n) (omega arith)) (le-leb (digit n) 57 (omega arith))

digits-all : (places n : ℕ) → all_digits (digits_in places n) ≡ true
unfolding digits_in all_digits
digits-all zero n = refl
digits-all (suc places) n =
    split (ltb n 10)
    (λ e. rw e (and_both (is_digit (digit n)) true (digit-is n) refl))
    (λ e. rw e (all_append (digits_in places (n / 10)) (digit n) (digits-all places (n / 10)) (digit-is n)))

digits-some : (places n : ℕ) → 0 < length (digits_in (suc places) n)
unfolding digits_in
digits-some places n =
    split (ltb n 10)
    (λ e. rw e (omega arith))
    (λ e. rw e (omega (arith, length-append (digits_in places (n / 10)) (digit n ∷ []))))

-- so many places hold the number
digits_value : (places n : ℕ) → n < 10 ^ places → value_from 0 (digits_in places n) ≡ n
unfolding digits_in value_from
digits_value zero n h = omega arith
digits_value (suc places) n h =
    split (ltb n 10)
    (λ e. let l = ltb-true n 10 e in rw e (omega arith))
    (λ e. let s = digits_value places (n / 10) (omega arith) in
    rw e (value-append 0 (digits_in places (n / 10)) (digit n) ∙ rw s (omega arith)))

-- in a field, which has fewer places
pub word-read-back : (n : ℕ) → n ≤ word_most → number word_most (digits_in 10 n) ≡ Some n
word-read-back n h = number_is word_most (digits_in 10 n) n (digits-some 9 n) (digits-all 10 n) (digits_value 10 n (omega arith)) h

pub read_back : (n : ℕ) → n ≤ time_most → number time_most (digits n) ≡ Some n
unfolding digits
read_back n h = number_is time_most (digits_in 20 n) n (digits-some 19 n) (digits-all 20 n) (digits_value 20 n (omega arith)) h
