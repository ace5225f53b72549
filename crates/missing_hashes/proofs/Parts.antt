-- What a buffer has of a place of hashes, also read as a hash; a hash put where it stands already changes nothing.
use Rattle.std.proofs.Common.{◌≡◌, refl, sym, ap, ◌∙◌, ℕ, zero, suc, ◌+◌, ◌-◌, ◌*◌, min, arith, List, length, get_or, take, drop}
use native.Mathlib.Nat.{zero-add}
use lib.ListN.{length-drop, drop_of_length-le}
use lib.Seq.{sets, take_all, get_or-take, get_or-drop, set-get_or}
use Rattle.rules.specs.Hashes.{hash_length, bytes_from, hash_at, put_hash}
use Rattle.rules.proofs.Hashes.{bytes-length, bytes-at, hash-is}
use Rattle.rules.proofs.Splits.{less?}

-- from `start` to `end`, both held at the end of the list
module _ (l : List ℕ) (from size start end : ℕ) (s : start ≡ min from (length l)) (e : end ≡ min (from + size) (length l)) where
  start-held : drop start l ≡ drop from l
  start-held = less? (length l) from
      (λ past. drop_of_length-le l {i = start} (omega arith) ∙ sym (drop_of_length-le l {i = from} (omega arith)))
      (λ within. let same : start ≡ from = omega arith in rw same)

  pub part_held : take (end - start) (drop start l) ≡ take size (drop from l)
  part_held = less? (length l) (from + size)
      (λ past. take_all (end - start) (drop start l) (rw length-drop (omega arith)) ∙ start-held ∙ sym (take_all size (drop from l) (rw length-drop (omega arith))))
      (λ within. let whole : end - start ≡ size = omega arith in rw (start-held, whole))

pub part-hash : (bytes : List ℕ) (k : ℕ) → hash_at (take hash_length (drop (k * hash_length) bytes)) 0 ≡ hash_at bytes k
unfolding hash_at
part-hash bytes k =
    let part = take hash_length (drop (k * hash_length) bytes) in
    hash-is bytes (hash_at part 0) k (bytes-length part 0 hash_length)
    (λ j l. bytes-at part 0 hash_length j l ∙ ap (λ (i : ℕ). get_or part i 0) (zero-add j)
    ∙ get_or-take hash_length (drop (k * hash_length) bytes) j 0 l ∙ get_or-drop (k * hash_length) bytes j 0)

bytes-put-back : (bytes : List ℕ) (from k : ℕ) → sets bytes from (bytes_from bytes from k) ≡ bytes
unfolding bytes_from
bytes-put-back bytes from zero = refl
bytes-put-back bytes from (suc k) =
    ap (λ (l : List ℕ). sets l (suc from) (bytes_from bytes (suc from) k)) (set-get_or bytes from 0) ∙ bytes-put-back bytes (suc from) k

pub hash-put-back : (bytes : List ℕ) (k : ℕ) → put_hash bytes k (hash_at bytes k) ≡ bytes
unfolding hash_at put_hash
hash-put-back bytes k = bytes-put-back bytes (k * hash_length) hash_length
