-- The anchor (01, "Anchor"): where the parent walk of a tip ends.
use Rattle.std.specs.Prelude.{not, List, ℕ, zero, suc, eqb, if◌then◌else◌}
use Rattle.rules.specs.Kinds.{BlockSlot}
use Rattle.rules.specs.Records.{NONE, slots_of, parent_at, occupied, active}

pub data Anchor : Type 0 where
  connection : (at : BlockSlot) → Anchor
  tail : (at : BlockSlot) → Anchor

-- at most so many visits from block i on; `last` is the last occupied block visited, or the start
unfoldable pub anchor_from : (parents sequences flags : List ℕ) (visits : ℕ) (last i : BlockSlot) → Anchor
anchor_from parents sequences flags zero last i = tail last
anchor_from parents sequences flags (suc visits) last i =
    if not (occupied sequences i) then tail last
    else if active flags i then connection i
    else if eqb (parent_at parents i) NONE then tail i
    else anchor_from parents sequences flags visits i (parent_at parents i)

unfoldable pub locate_anchor : (parents sequences flags : List ℕ) (tip : BlockSlot) → Anchor
locate_anchor parents sequences flags tip = anchor_from parents sequences flags (slots_of sequences) tip tip
