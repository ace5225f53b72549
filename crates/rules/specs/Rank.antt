-- Rank (01, "Timer", last paragraph): which of two branches is heavier.
use Rattle.std.specs.Prelude.{Bool, ◌&&◌, ◌||◌, ℕ, eqb, ltb}
use Rattle.rules.specs.Kinds.{Hash}
use Rattle.rules.specs.Hashes.{hash_less}

pub record Rank : Type 0 where
  pub value : ℕ
  pub length : ℕ
  pub hash : Hash

-- higher value, then greater length, then lower hash
unfoldable pub outranks : (a b : Rank) → Bool
outranks a b =
    ltb b.value a.value
    || (eqb a.value b.value && (ltb b.length a.length || (eqb a.length b.length && hash_less a.hash b.hash)))
