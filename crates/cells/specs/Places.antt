-- Where a value is next.
use Rattle.std.specs.Prelude.{Bool, not, ◌&&◌, List, ℕ, eqb, ltb, get_or, Option}
use Rattle.rules.specs.Common.{lowest}
use Rattle.rules.specs.Records.{NONE, slots_of}

-- slot k is at `from` or above and holds the value
unfoldable pub holds_from : (words : List ℕ) (from value k : ℕ) → Bool
holds_from words from value k = not (ltb k from) && eqb (get_or words k NONE) value

-- the lowest of these slots
unfoldable pub next_at : (words : List ℕ) (from value : ℕ) → Option ℕ
next_at words from value = lowest (holds_from words from value) (slots_of words)
