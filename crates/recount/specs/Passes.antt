-- The counts in three passes over the slots: occupied slots to 0, one more for each child, and at least 1.
use Rattle.std.specs.Prelude.{◌&&◌, List, ℕ, eqb, ltb, pos, set, if◌then◌else◌}
use Rattle.rules.specs.Kinds.{BlockSlot}
use Rattle.rules.specs.Records.{slots_of, parent_at, count_at, occupied}
use Rattle.rules.specs.BlockTable.{adjust_counts, set_occupied}

unfoldable pub clear_count : (sequences : List ℕ) (i : BlockSlot) (counts : List ℕ) → List ℕ
clear_count sequences i counts = set_occupied sequences counts i 0

-- block j counts for its parent, if that is a slot
unfoldable pub count_child : (parents sequences : List ℕ) (j : BlockSlot) (counts : List ℕ) → List ℕ
count_child parents sequences j counts =
    if occupied sequences j && ltb (parent_at parents j) (slots_of sequences)
    then adjust_counts sequences counts (parent_at parents j) (pos 1)
    else counts

unfoldable pub raise_count : (sequences : List ℕ) (i : BlockSlot) (counts : List ℕ) → List ℕ
raise_count sequences i counts = if occupied sequences i && eqb (count_at counts i) 0 then set counts i 1 else counts
