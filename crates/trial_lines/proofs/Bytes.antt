-- The length of a field, and the value of a number byte by byte.
use mathlib.Core.Path.{◌≡◌, refl}
use mathlib.Core.Logic.{◌≢◌}
use mathlib.Core.Bool.{true, false, not, ◌&&◌}
use mathlib.Core.List.{List, [], ◌∷◌}
use Rattle.std.specs.Prelude.{None, Some, unwrap_or, position}
use Rattle.std.specs.List.{position_or_len}
use Prim.Native.Nat.{ℕ, suc, ◌+◌, ◌*◌, ◌-◌, ◌<◌, ◌≤◌}
use native.Mathlib.Numerals.{add-one}
use native.Mathlib.Omega.{arith}
use borrow.Author.Tests.{eq-eqb, ne_eqb, lt-ltb, le-ltb, le-leb, lt-leb, leb-true}
use lib.Dec.{eqb, ltb, leb}
use lib.ListN.{length, get_or, take, drop, drop_of_length-le}
use lib.Seq.{drop-cons, take_all}
use Rattle.std.proofs.lemmas.List.Sums.{prefix_len-le-length}
use Rattle.std.proofs.lemmas.List.Folds.{list_all_at, list_all_more}
use Rattle.rules.proofs.Splits.{less?, split, and-true, some-not-none}
use Rattle.trial_lines.specs.Reading.{field_length, is_digit, all_digits, value_from, number, hex_digit}

-- ---- fields

pub field_found : (line : List ℕ) → unwrap_or (position (λ b. eqb b 32) line) (length line) ≡ field_length line
unfolding field_length
field_found line =
    let n = position_or_len (λ b. eqb b 32) line in
    let h = prefix_len-le-length (λ b. not (eqb b 32)) line in
    less? n (length line) (λ l. rw (lt-ltb n (length line) l)) (λ l. rw (le-ltb n (length line) l) (omega arith))

pub field_short : (line : List ℕ) → field_length line ≤ length line
unfolding field_length
field_short line = prefix_len-le-length _ line

pub field-goes : (line : List ℕ) (i : ℕ) → i < length line → get_or line i 0 ≢ 32 → field_length (drop i line) ≡ suc (field_length (drop (i + 1) line))
unfolding field_length
field-goes line i h n = rw (add-one, drop-cons line i 0 h, ne_eqb (get_or line i 0) 32 n) (omega arith)

pub field-stops : (line : List ℕ) (i : ℕ) → i < length line → get_or line i 0 ≡ 32 → field_length (drop i line) ≡ 0
unfolding field_length
field-stops line i h e = rw (drop-cons line i 0 h, eq-eqb (get_or line i 0) 32 e)

pub field_end : (line : List ℕ) (i : ℕ) → length line ≤ i → field_length (drop i line) ≡ 0
unfolding field_length
field_end line i h = rw (drop_of_length-le line h)

-- ---- numbers

pub value-goes : (bytes : List ℕ) (n i : ℕ) → i < length bytes → value_from n (drop i bytes) ≡ value_from (n * 10 + (get_or bytes i 0 - 48)) (drop (i + 1) bytes)
unfolding value_from
value-goes bytes n i h = rw (add-one, drop-cons bytes i 0 h)

pub value-end : (bytes : List ℕ) (n i : ℕ) → length bytes ≤ i → value_from n (drop i bytes) ≡ n
unfolding value_from
value-end bytes n i h = rw (drop_of_length-le bytes h)

-- digits that follow make no number smaller
pub value_grows : (n : ℕ) (bytes : List ℕ) → n ≤ value_from n bytes
unfolding value_from
value_grows n [] = omega arith
value_grows n (b ∷ bytes) = let h = value_grows (n * 10 + (b - 48)) bytes in omega arith

pub digits-go : (bytes : List ℕ) (i : ℕ) → i < length bytes → is_digit (get_or bytes i 0) ≡ true → all_digits (drop i bytes) ≡ all_digits (drop (i + 1) bytes)
unfolding all_digits
digits-go bytes i h e = rw (add-one, drop-cons bytes i 0 h, e)

pub digits-stop : (bytes : List ℕ) (i : ℕ) → i < length bytes → is_digit (get_or bytes i 0) ≡ false → all_digits (drop i bytes) ≡ false
unfolding all_digits
digits-stop bytes i h e = rw (drop-cons bytes i 0 h, e)

pub digits-end : (bytes : List ℕ) (i : ℕ) → length bytes ≤ i → all_digits (drop i bytes) ≡ true
unfolding all_digits
digits-end bytes i h = rw (drop_of_length-le bytes h)

-- every byte is a digit, one after the other
pub digits-first : all_digits [] ≡ true
unfolding all_digits
digits-first = refl

pub digits-more : (bytes : List ℕ) (i : ℕ) → i < length bytes → all_digits (take i bytes) ≡ true → is_digit (get_or bytes i 0) ≡ true
    → all_digits (take (i + 1) bytes) ≡ true
unfolding all_digits
digits-more bytes i h e d = rw (list_all_more is_digit bytes i 0 h, e, d)

pub digits-not : (bytes : List ℕ) (i : ℕ) → i < length bytes → is_digit (get_or bytes i 0) ≡ false → all_digits bytes ≡ false
unfolding all_digits
digits-not bytes i h d = list_all_at is_digit bytes i 0 h d

pub digits-whole : (bytes : List ℕ) (i : ℕ) → length bytes ≤ i → all_digits (take i bytes) ≡ true → all_digits bytes ≡ true
digits-whole bytes i h e = rw (take_all i bytes h) at e

pub ruleset values = (value-goes, value-end, value_grows, digits-first, digits-more, digits-not, digits-whole)

pub number-empty : (most : ℕ) (bytes : List ℕ) → length bytes ≡ 0 → number most bytes ≡ None
unfolding number
number-empty most bytes e = rw (le-ltb 0 (length bytes) (omega arith))

pub number-not : (most : ℕ) (bytes : List ℕ) → all_digits bytes ≡ false → number most bytes ≡ None
unfolding number
number-not most bytes e = split (ltb 0 (length bytes)) (λ h. rw (h, e)) (λ h. rw h)

pub number-large : (most : ℕ) (bytes : List ℕ) → most < value_from 0 bytes → number most bytes ≡ None
unfolding number
number-large most bytes l =
    split (ltb 0 (length bytes))
    (λ h. split (all_digits bytes) (λ d. rw (h, d, lt-leb (value_from 0 bytes) most l)) (λ d. rw (h, d)))
    (λ h. rw h)

pub number_is : (most : ℕ) (bytes : List ℕ) (n : ℕ) → 0 < length bytes → all_digits bytes ≡ true → value_from 0 bytes ≡ n → n ≤ most → number most bytes ≡ Some n
unfolding number
number_is most bytes n h d v l = rw (lt-ltb 0 (length bytes) h, d, v, le-leb n most l)

-- what is read fits
pub number_fits : (most : ℕ) (bytes : List ℕ) (n : ℕ) → number most bytes ≡ Some n → n ≤ most
unfolding number
number_fits most bytes n e =
    let v = value_from 0 bytes in
    split (ltb 0 (length bytes) && (all_digits bytes && leb v most))
    (λ t. let s : Some v ≡ Some n = rw t at e in
    let q : v ≡ n = cc in
    let b = and-true (ltb 0 (length bytes)) (all_digits bytes && leb v most) t in
    let h = leb-true v most (and-true (all_digits bytes) (leb v most) b.1).1 in
    omega arith)
    (λ t. let s : None ≡ Some n = rw t at e in some-not-none s refl)

-- ---- hashes

pub hex-small : (b d : ℕ) → hex_digit b ≡ Some d → d ≤ 15
hex-small b d e =
    split (is_digit b)
    (λ t. let s : Some (b - 48) ≡ Some d = rw t at e in
    let q : b - 48 ≡ d = cc in
    let h = leb-true b 57 (and-true (leb 48 b) (leb b 57) t).1 in
    omega arith)
    (λ t. split (leb 97 b && leb b 102)
    (λ u. let s : Some (b - 87) ≡ Some d = rw (t, u) at e in
    let q : b - 87 ≡ d = cc in
    let h = leb-true b 102 (and-true (leb 97 b) (leb b 102) u).1 in
    omega arith)
    (λ u. let s : None ≡ Some d = rw (t, u) at e in some-not-none s refl))
