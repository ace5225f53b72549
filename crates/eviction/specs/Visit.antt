-- One visit of the eviction walk, as the loop makes it: what it leaves, and where the walk goes on.
use Rattle.std.specs.Prelude.{◌≡◌, not, eqb, if◌then◌else◌, Option, None, Some}
use Rattle.rules.specs.Kinds.{BlockSlot}
use Rattle.rules.specs.Records.{Blocks, parent_at, count_at, occupied, active}
use Rattle.rules.specs.BlockTable.{minus_one, adjusted, adjust, delete}

unfoldable pub visited : (b : Blocks) (i : BlockSlot) → Blocks
visited b i =
    if not (occupied b.sequences i) then b
    else if active b.flags i then adjust b i minus_one
    else if eqb (adjusted (count_at b.counts i) minus_one) 0 then delete (adjust b i minus_one) i
    else adjust b i minus_one

unfoldable pub goes_on : (b : Blocks) (i : BlockSlot) → Option BlockSlot
goes_on b i =
    if not (occupied b.sequences i) then None
    else if active b.flags i then None
    else if eqb (adjusted (count_at b.counts i) minus_one) 0 then Some (parent_at b.parents i)
    else None

-- where the walk goes next, and the blocks that the visit leaves
abbrev pub Visits : (b : Blocks) (i : BlockSlot) (next : Option BlockSlot) (left : Blocks) → Type 0
Visits b i next left = (next ≡ goes_on b i) × (left ≡ visited b i)
