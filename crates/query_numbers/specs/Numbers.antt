-- The numbers that stand for answers.
use Rattle.std.specs.Prelude.{Bool, true, false, ℕ, ◌+◌, Option, None, Some}
use Rattle.rules.specs.Records.{NONE}
use Rattle.rules.specs.Anchor.{Anchor, connection, tail}

-- NONE_REF is none
abbrev pub or_none : (o : Option ℕ) → ℕ
or_none None = NONE
or_none (Some i) = i

abbrev pub yes : (answer : Bool) → ℕ
yes true = 1
yes false = 0

-- a slot, with 2^32 added where the walk ends on the active chain
abbrev pub anchor_number : (anchor : Anchor) → ℕ
anchor_number (connection slot) = 4294967296 + slot
anchor_number (tail slot) = slot
