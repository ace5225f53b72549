-- Hashes (01, "Records"): 32 bytes taken together, ordered from the first byte on.
use Rattle.std.specs.Prelude.{Bool, true, false, ◌&&◌, List, [], ◌∷◌, ℕ, zero, suc, ◌*◌, eqb, ltb, get_or, replicate, if◌then◌else◌}
use Rattle.std.proofs.lemmas.List.Edits.{sets}
use Rattle.rules.specs.Kinds.{Hash}

abbrev pub hash_length : ℕ
hash_length = 32

abbrev pub zero_hash : Hash
zero_hash = replicate hash_length 0

-- k bytes of a buffer from a place on; a byte past its end reads as 0
unfoldable pub bytes_from : (bytes : List ℕ) (from k : ℕ) → List ℕ
bytes_from bytes from zero = []
bytes_from bytes from (suc k) = get_or bytes from 0 ∷ bytes_from bytes (suc from) k

-- the hash in the i-th place of a buffer of hashes
unfoldable pub hash_at : (bytes : List ℕ) (i : ℕ) → Hash
hash_at bytes i = bytes_from bytes (i * hash_length) hash_length

abbrev pub first_byte : (hash : Hash) → ℕ
first_byte hash = get_or hash 0 0

unfoldable pub put_hash : (bytes : List ℕ) (i : ℕ) (hash : Hash) → List ℕ
put_hash bytes i hash = sets bytes (i * hash_length) hash

unfoldable pub same_hash : (hash other : Hash) → Bool
same_hash [] [] = true
same_hash [] (y ∷ ys) = false
same_hash (x ∷ xs) [] = false
same_hash (x ∷ xs) (y ∷ ys) = eqb x y && same_hash xs ys

-- the first byte that differs decides
unfoldable pub hash_less : (hash other : Hash) → Bool
hash_less [] ys = false
hash_less (x ∷ xs) [] = false
hash_less (x ∷ xs) (y ∷ ys) = if ltb x y then true else if ltb y x then false else hash_less xs ys
