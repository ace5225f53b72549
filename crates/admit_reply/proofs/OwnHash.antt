-- A hash of 32 bytes, read from its buffer, is the buffer.
use mathlib.Core.Path.{◌≡◌, sym, ap}
use mathlib.Core.List.{List}
use Prim.Native.Nat.{ℕ, ◌+◌, ◌*◌}
use native.Mathlib.Omega.{arith}
use lib.ListN.{length, get_or}
use Rattle.rules.specs.Hashes.{hash_length, hash_at}
use Rattle.rules.proofs.Hashes.{hash-is}

pub own-hash : (hash : List ℕ) → length hash ≡ hash_length → hash_at hash 0 ≡ hash
own-hash hash len =
    sym (hash-is hash hash 0 len (λ k l. let e : k ≡ 0 * hash_length + k = omega arith in ap (λ (j : ℕ). get_or hash j 0) e))
