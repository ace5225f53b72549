-- A head whose missing hash begins with another byte does not miss the hash.
use mathlib.Core.Path.{◌≡◌, ap}
use mathlib.Core.Logic.{◌≢◌}
use mathlib.Core.Bool.{false}
use mathlib.Core.List.{List}
use Prim.Native.Nat.{ℕ}
use Rattle.rules.specs.Hashes.{hash_at, first_byte, same_hash}
use Rattle.rules.specs.Records.{stored}
use Rattle.rules.specs.Admission.{misses}
use Rattle.rules.proofs.Hashes.{same-equal}
use Rattle.rules.proofs.Splits.{split, and-true}

pub not-missed : (tips missing connected hash : List ℕ) (k : ℕ) → first_byte (hash_at missing k) ≢ first_byte hash
    → misses tips missing connected hash k ≡ false
unfolding misses
not-missed tips missing connected hash k differ = split (misses tips missing connected hash k)
    (λ e. absurd (differ (ap first_byte (same-equal (hash_at missing k) hash (and-true (stored tips connected k) (same_hash (hash_at missing k) hash) e).1))))
    (λ e. e)
