-- Hashes: what is read and written cell by cell, and that the order on them decides at the first byte that differs.
use Rattle.std.specs.Prelude.{if◌then◌else◌}
use mathlib.Core.Path.{◌≡◌, refl, sym, ap, ◌∙◌}
use mathlib.Core.Logic.{◌≢◌}
use mathlib.Core.Bool.{true, false}
use mathlib.Core.List.{List, [], ◌∷◌}
use Prim.Native.Nat.{ℕ, zero, suc, ◌+◌, ◌*◌, ◌<◌, ◌≤◌}
use native.Mathlib.Numerals.{add-one}
use native.Mathlib.Nat.{add-zero}
use native.Mathlib.Omega.{arith}
use borrow.Author.Tests.{eq-eqb, ne_eqb, lt-ltb, le-ltb, eqb-true}
use lib.Dec.{eqb, ltb}
use lib.ListN.{length, get_or, drop, drop_of_length-le}
use lib.Seq.{drop-cons, ext_get_or}
use Rattle.rules.specs.Hashes.{bytes_from, hash_at, same_hash, hash_less, hash_length}
use Rattle.rules.proofs.Splits.{and-true, and_both, true-not-false}

-- ---- reading

pub bytes-length : (bytes : List ℕ) (from k : ℕ) → length (bytes_from bytes from k) ≡ k
unfolding bytes_from
bytes-length bytes from zero = refl
bytes-length bytes from (suc k) = ap suc (bytes-length bytes (suc from) k)

pub bytes-at : (bytes : List ℕ) (from k i : ℕ) → i < k → get_or (bytes_from bytes from k) i 0 ≡ get_or bytes (from + i) 0
unfolding bytes_from
bytes-at bytes from zero i l = absurd (omega arith)
bytes-at bytes from (suc k) zero l = rw add-zero refl
bytes-at bytes from (suc k) (suc i) l =
    let e : suc from + i ≡ from + suc i = omega arith in
    bytes-at bytes (suc from) k i (omega arith) ∙ ap (λ (j : ℕ). get_or bytes j 0) e

-- a list of 32 that agrees cell by cell is the hash
pub hash-is : (bytes hash : List ℕ) (i : ℕ) → length hash ≡ hash_length
    → ((k : ℕ) → k < hash_length → get_or hash k 0 ≡ get_or bytes (i * hash_length + k) 0) → hash ≡ hash_at bytes i
unfolding hash_at
hash-is bytes hash i len at =
    ext_get_or 0 hash (bytes_from bytes (i * hash_length) hash_length) (len ∙ sym (bytes-length bytes (i * hash_length) hash_length))
    (λ k l. let l' : k < hash_length = omega arith in at k l' ∙ sym (bytes-at bytes (i * hash_length) hash_length k l'))

pub hash-length : (bytes : List ℕ) (i : ℕ) → length (hash_at bytes i) ≡ hash_length
unfolding hash_at
hash-length bytes i = bytes-length bytes (i * hash_length) hash_length

pub hash-byte : (bytes : List ℕ) (i k : ℕ) → k < hash_length → get_or (hash_at bytes i) k 0 ≡ get_or bytes (i * hash_length + k) 0
unfolding hash_at
hash-byte bytes i k = bytes-at bytes (i * hash_length) hash_length k

pub first_byte : (bytes : List ℕ) (i : ℕ) → get_or bytes (i * hash_length) 0 ≡ get_or (hash_at bytes i) 0 0
first_byte bytes i = sym (hash-byte bytes i 0 (omega arith) ∙ rw add-zero refl)

-- ---- comparing, from a place on

module _ (a b : List ℕ) where
  pub same_start : same_hash a b ≡ same_hash (drop 0 a) (drop 0 b)
  same_start = refl

  pub same_end : (i : ℕ) → length a ≤ i → length b ≤ i → same_hash (drop i a) (drop i b) ≡ true
  unfolding same_hash
  same_end i la lb = rw (drop_of_length-le a la, drop_of_length-le b lb) refl

  module _ (i : ℕ) (la : i < length a) (lb : i < length b) where
    pub same-goes : get_or a i 0 ≡ get_or b i 0 → same_hash (drop i a) (drop i b) ≡ same_hash (drop (i + 1) a) (drop (i + 1) b)
    unfolding same_hash
    same-goes e = rw (add-one, drop-cons a i 0 la, drop-cons b i 0 lb) (rw (eq-eqb (get_or a i 0) (get_or b i 0) e))

    pub same-stops : get_or a i 0 ≢ get_or b i 0 → same_hash (drop i a) (drop i b) ≡ false
    unfolding same_hash
    same-stops ne = rw (drop-cons a i 0 la, drop-cons b i 0 lb) (rw (ne_eqb (get_or a i 0) (get_or b i 0) ne))

    less-at : hash_less (drop i a) (drop i b)
        ≡ (if ltb (get_or a i 0) (get_or b i 0) then true else if ltb (get_or b i 0) (get_or a i 0) then false else hash_less (drop (i + 1) a) (drop (i + 1) b))
    unfolding hash_less
    less-at = rw (add-one, drop-cons a i 0 la, drop-cons b i 0 lb) refl

    pub less-below : get_or a i 0 < get_or b i 0 → hash_less (drop i a) (drop i b) ≡ true
    less-below h = less-at ∙ rw (lt-ltb (get_or a i 0) (get_or b i 0) h)

    pub less-above : get_or b i 0 < get_or a i 0 → hash_less (drop i a) (drop i b) ≡ false
    less-above h = let k : get_or b i 0 ≤ get_or a i 0 = omega arith in
        less-at ∙ rw (le-ltb (get_or a i 0) (get_or b i 0) k, lt-ltb (get_or b i 0) (get_or a i 0) h)

    pub less-goes : get_or b i 0 ≤ get_or a i 0 → get_or a i 0 ≤ get_or b i 0 → hash_less (drop i a) (drop i b) ≡ hash_less (drop (i + 1) a) (drop (i + 1) b)
    less-goes h k = less-at ∙ rw (le-ltb (get_or a i 0) (get_or b i 0) h, le-ltb (get_or b i 0) (get_or a i 0) k)

  pub less-end : (i : ℕ) → length a ≤ i → hash_less (drop i a) (drop i b) ≡ false
  unfolding hash_less
  less-end i la = rw (drop_of_length-le a la) refl

-- ---- the test means equality

pub same_refl : (a : List ℕ) → same_hash a a ≡ true
unfolding same_hash
same_refl [] = refl
same_refl (x ∷ a) = and_both (eqb x x) (same_hash a a) (eq-eqb x x refl) (same_refl a)

pub same-equal : (a b : List ℕ) → same_hash a b ≡ true → a ≡ b
unfolding same_hash
same-equal [] [] e = refl
same-equal [] (y ∷ b) e = true-not-false {b = false} e refl
same-equal (x ∷ a) [] e = true-not-false {b = false} e refl
same-equal (x ∷ a) (y ∷ b) e =
    let p = and-true (eqb x y) (same_hash a b) e in
    let h : x ≡ y = eqb-true x y p.0 in
    let t : a ≡ b = same-equal a b p.1 in
    cc
