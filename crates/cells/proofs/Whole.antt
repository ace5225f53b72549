-- A hash that stands whole in a buffer is a part of it.
use mathlib.Core.Path.{◌≡◌, refl, sym, ◌∙◌}
use mathlib.Core.List.{List, append_assoc}
use Prim.Native.Nat.{ℕ, ◌+◌, ◌*◌, ◌-◌, ◌<◌, ◌≤◌}
use native.Mathlib.Omega.{arith}
use borrow.Rule.Slice.PartMut.{put_mid}
use lib.ListN.{length, take, drop, length-take, length-drop}
use lib.Seq.{get_or-take, get_or-drop, sets-eq, take_all, length-take-le, drop-drop}
use Rattle.rules.specs.Hashes.{hash_at, put_hash}
use Rattle.rules.proofs.Cells.{sets-out, sets-cut}
use Rattle.rules.proofs.Hashes.{hash-is}

pub read_whole : (bytes : List ℕ) (at : ℕ) → at * 32 + 32 ≤ length bytes → hash_at bytes at ≡ take 32 (drop (at * 32) bytes)
read_whole bytes at l = sym (hash-is bytes (take 32 (drop (at * 32) bytes)) at
    (omega (arith, length-take 32 (drop (at * 32) bytes), length-drop (at * 32) bytes))
    (λ k m. get_or-take 32 (drop (at * 32) bytes) k 0 m ∙ get_or-drop (at * 32) bytes k 0))

-- n bytes of the hash are written, which are all or as many as the buffer has
put_some : (bytes hash : List ℕ) (at n : ℕ) → n ≤ length hash → at * 32 + n ≤ length bytes
    → put_hash bytes at (take n hash) ≡ put_mid (at * 32) n bytes (take n hash)
unfolding put_hash
put_some bytes hash at n k l =
    let e : length (take n hash) ≡ n = length-take-le n hash k in
    sets-eq (take n hash) bytes (at * 32) (omega arith) ∙ rw (append_assoc, e, ← drop-drop) refl

pub put_whole : (bytes hash : List ℕ) (at : ℕ) → length hash ≡ 32 → at * 32 + 32 ≤ length bytes
    → put_hash bytes at hash ≡ put_mid (at * 32) 32 bytes hash
put_whole bytes hash at e l =
    let f : take 32 hash ≡ hash = take_all 32 hash (omega arith) in
    rw f at (put_some bytes hash at 32 (omega arith) l)

-- a hash that the buffer's end cuts, and one past it
pub put_cut : (bytes hash : List ℕ) (at : ℕ) → length hash ≡ 32 → at * 32 ≤ length bytes → length bytes < at * 32 + 32
    → put_hash bytes at hash ≡ put_mid (at * 32) (length bytes - at * 32) bytes (take (length bytes - at * 32) hash)
unfolding put_hash
put_cut bytes hash at e k l =
    sets-cut bytes hash (at * 32) (length bytes - at * 32) (omega arith)
    ∙ put_some bytes hash at (length bytes - at * 32) (omega arith) (omega arith)

pub put_past : (bytes hash : List ℕ) (at : ℕ) → length bytes ≤ at * 32 → put_hash bytes at hash ≡ bytes
unfolding put_hash
put_past bytes hash at l = sets-out bytes hash (at * 32) l
