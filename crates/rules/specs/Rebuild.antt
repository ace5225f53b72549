-- Rebuild and restart (01, "Rebuild"): the heads made anew from the blocks.
use Rattle.std.specs.Prelude.{Bool, ◌&&◌, length, if◌then◌else◌}
use Rattle.rules.specs.Kinds.{BlockSlot, Time}
use Rattle.rules.specs.Common.{in_order}
use Rattle.rules.specs.Hashes.{zero_hash}
use Rattle.rules.specs.Records.{NONE, Tables, slots_of, occupied, with_blocks, empty_heads}
use Rattle.rules.specs.BlockTable.{childless}
use Rattle.rules.specs.Admission.{insert_head}
use Rattle.rules.specs.Removal.{recounted}

-- an occupied slot without children
abbrev pub is_leaf : (t : Tables) (i : BlockSlot) → Bool
is_leaf t i = occupied t.blocks.sequences i && childless t.blocks.parents t.blocks.sequences i

-- a childless block becomes a head, evicting first when full
unfoldable pub rebuild_at : (arrival : Time) (active_head i : BlockSlot) (t : Tables) → Tables
rebuild_at arrival active_head i t = if is_leaf t i then insert_head t i NONE zero_hash arrival active_head else t

-- the slots below i are done
abbrev pub rebuilt_below : (i : BlockSlot) (t : Tables) (arrival : Time) (active_head : BlockSlot) → Tables
rebuilt_below i t arrival active_head = in_order (rebuild_at arrival active_head) i t

unfoldable pub rebuild_heads : (t : Tables) (arrival : Time) (active_head : BlockSlot) → Tables
rebuild_heads t arrival active_head = rebuilt_below (slots_of t.blocks.sequences) t arrival active_head

-- then counts are set as in removal
unfoldable pub rebuilt : (t : Tables) (arrival : Time) (active_head : BlockSlot) → Tables
rebuilt t arrival active_head =
    let u = rebuild_heads t arrival active_head in
    with_blocks u (recounted u.blocks)

-- restart empties the heads, sets the counts first, then rebuilds
abbrev pub headless : (t : Tables) → Tables
headless t = record { blocks = recounted t.blocks; heads = empty_heads (length t.heads.tips) }

unfoldable pub restarted : (t : Tables) (arrival : Time) (active_head : BlockSlot) → Tables
restarted t arrival active_head = rebuilt (headless t) arrival active_head
