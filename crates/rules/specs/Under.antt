-- How much hangs under a block (02, S-1): the count goes from a block to its children and from those to theirs, level by level.
use Rattle.std.specs.Prelude.{Bool, ◌&&◌, List, [], ◌∷◌, ◌++◌, ℕ, zero, suc, max, eqb}
use Rattle.rules.specs.Kinds.{BlockSlot, Sequence}
use Rattle.rules.specs.Common.{all_below}
use Rattle.rules.specs.Records.{slots_of, sequence_at, parent_at, occupied}

-- level 0 is the block itself, level k + 1 the children of those of level k: the occupied slots whose parent slot is on level k. A block
-- has one parent slot, so no level has it twice
unfoldable pub on_level : (parents sequences : List ℕ) (root : BlockSlot) (level : ℕ) (i : BlockSlot) → Bool
on_level parents sequences root zero i = eqb i root
on_level parents sequences root (suc level) i = occupied sequences i && on_level parents sequences root level (parent_at parents i)

-- the blocks of so many levels, one level after the other: a block met at several stands there once for each
unfoldable pub met : (parents sequences : List ℕ) (root : BlockSlot) (levels : ℕ) → List BlockSlot
met parents sequences root zero = []
met parents sequences root (suc levels) =
    met parents sequences root levels ++ all_below (on_level parents sequences root levels) (slots_of sequences)

-- n levels with the block's own, of an occupied slot; the call refuses others
unfoldable pub hanging : (parents sequences : List ℕ) (root : BlockSlot) → List BlockSlot
hanging parents sequences root = met parents sequences root (slots_of sequences)

-- the highest sequence among listed blocks; one at least is listed
unfoldable pub highest : (sequences : List ℕ) (listed : List BlockSlot) → Sequence
highest sequences [] = 0
highest sequences (i ∷ is) = max (sequence_at sequences i) (highest sequences is)
