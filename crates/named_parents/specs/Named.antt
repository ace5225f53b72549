-- Which slots are named as a parent: a byte a slot, 1 where an occupied block names it.
use Rattle.std.specs.Prelude.{Bool, ◌&&◌, List, ℕ, eqb, ltb, length, get_or, set, replicate, if◌then◌else◌}
use Rattle.rules.specs.Kinds.{BlockSlot}
use Rattle.rules.specs.Common.{in_order}
use Rattle.rules.specs.Records.{slots_of, parent_at, occupied}
use Rattle.rules.specs.BlockTable.{childless}

-- the block in slot i names its parent
unfoldable pub name_parent : (parents sequences : List ℕ) (i : BlockSlot) (named : List ℕ) → List ℕ
name_parent parents sequences i named = if occupied sequences i then set named (parent_at parents i) 1 else named

unfoldable pub named_parents : (parents sequences : List ℕ) (size : ℕ) → List ℕ
named_parents parents sequences size = in_order (name_parent parents sequences) (slots_of sequences) (replicate size 0)

-- an occupied slot that the bytes do not name; past the last byte the blocks tell
unfoldable pub is_end : (parents sequences named : List ℕ) (i : BlockSlot) → Bool
is_end parents sequences named i =
    occupied sequences i && (if ltb i (length named) then eqb (get_or named i 0) 0 else childless parents sequences i)
