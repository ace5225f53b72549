-- What a stored hash leaves in its own place and in the others.
use mathlib.Core.Path.{◌≡◌, refl, sym, ◌∙◌}
use mathlib.Core.Logic.{◌≢◌}
use mathlib.Core.List.{List, [], ◌∷◌}
use Prim.Native.Nat.{ℕ, zero, suc, ◌+◌, ◌*◌, ◌<◌, ◌≤◌}
use native.Mathlib.Nat.{add-zero}
use native.Mathlib.Omega.{arith}
use lib.ListN.{length, get_or, set, length-set, length-replicate}
use lib.Seq.{sets, get_or-set_same, get_or-set_other, length-sets}
use Rattle.rules.specs.Hashes.{hash_at, put_hash, hash_length, zero_hash}
use Rattle.rules.proofs.Splits.{less?}
use Rattle.rules.proofs.Hashes.{hash-length, bytes-at, hash-is}

pub sets-before : (vs l : List ℕ) (a k : ℕ) → k < a → get_or (sets l a vs) k 0 ≡ get_or l k 0
sets-before [] l a k h = refl
sets-before (v ∷ vs) l a k h = sets-before vs (set l a v) (suc a) k (omega arith) ∙ get_or-set_other l a k v 0 (omega arith)

pub sets_behind : (vs l : List ℕ) (a k : ℕ) → a + length vs ≤ k → get_or (sets l a vs) k 0 ≡ get_or l k 0
sets_behind [] l a k h = refl
sets_behind (v ∷ vs) l a k h = sets_behind vs (set l a v) (suc a) k (omega arith) ∙ get_or-set_other l a k v 0 (omega arith)

pub sets-at : (vs l : List ℕ) (a k : ℕ) → a + length vs ≤ length l → k < length vs → get_or (sets l a vs) (a + k) 0 ≡ get_or vs k 0
sets-at [] l a k h n = absurd (omega arith)
sets-at (v ∷ vs) l a zero h n =
    rw add-zero (sets-before vs (set l a v) (suc a) a (omega arith) ∙ get_or-set_same l a v 0 (omega arith))
sets-at (v ∷ vs) l a (suc k) h n =
    let e : a + suc k ≡ suc a + k = omega arith in
    rw e (sets-at vs (set l a v) (suc a) k (omega (arith, length-set l a v)) (omega arith))

module _ (bytes hash : List ℕ) (i : ℕ) (len : length hash ≡ hash_length) where
  pub put-hash-other : (j : ℕ) → j ≢ i → hash_at (put_hash bytes i hash) j ≡ hash_at bytes j
  unfolding put_hash hash_at
  put-hash-other j ne = sym (hash-is (put_hash bytes i hash) (hash_at bytes j) j (hash-length bytes j) (λ k l.
      bytes-at bytes (j * hash_length) hash_length k l
      ∙ sym (less? j i
      (λ lt. sets-before hash bytes (i * hash_length) (j * hash_length + k) (omega arith))
      (λ le. sets_behind hash bytes (i * hash_length) (j * hash_length + k) (omega arith)))))

  pub put-hash-here : i * hash_length + hash_length ≤ length bytes → hash_at (put_hash bytes i hash) i ≡ hash
  unfolding put_hash
  put-hash-here h = sym (hash-is (put_hash bytes i hash) hash i len (λ k l.
      sym (sets-at hash bytes (i * hash_length) k (omega arith) (omega arith))))

  pub put-hash-length : length (put_hash bytes i hash) ≡ length bytes
  unfolding put_hash
  put-hash-length = length-sets bytes (i * hash_length) hash

pub zero-length : length zero_hash ≡ hash_length
zero-length = length-replicate {A = ℕ} hash_length 0
