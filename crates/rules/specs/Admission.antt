-- Admission (01, "Admission"): the new block's head, the late tails, and admit's added step.
use Rattle.std.specs.Prelude.{Bool, not, ◌&&◌, List, ℕ, suc, eqb, pos, set, if◌then◌else◌, Option, None, Some}
use Rattle.rules.specs.Kinds.{BlockSlot, HeadSlot, Sequence, Time, Hash}
use Rattle.rules.specs.Common.{lowest, in_order}
use Rattle.rules.specs.Hashes.{zero_hash, hash_at, same_hash}
use Rattle.rules.specs.Records.{NONE, Blocks, Heads, Tables, slots_of, sequence_at, parent_at, tip_at, tail_at, occupied, used, stored, put_head, clear, with_parents, caches, with_caches, with_blocks, with_heads, with_tips, with_arrivals, head_of}
use Rattle.rules.specs.BlockTable.{adjust, resolve_parent}
use Rattle.rules.specs.Caches.{slot_of_head, recompute_head, refresh_head}
use Rattle.rules.specs.Eviction.{evict_one}
use Rattle.rules.specs.declared.Head.{Head}

-- block i counts one more
abbrev pub one_more : (t : Tables) (i : BlockSlot) → Tables
one_more t i = with_blocks t (adjust t.blocks i (pos 1))

-- the lowest empty head slot
unfoldable pub first_empty : (tips : List ℕ) → Option HeadSlot
first_empty tips = lowest (λ k. not (used tips k)) (slots_of tips)

-- a head that has just arrived: request time 0, and its tip for a tail until its caches are worked out
abbrev pub new_head : (tip : BlockSlot) (arrival : Time) → Head
new_head tip arrival = head_of tip tip zero_hash 0 arrival 0

-- in the lowest empty slot; where there is none the tip gets no head
unfoldable pub seat_head : (t : Tables) (tip arriving : BlockSlot) (previous : Hash) (arrival : Time) → Tables
seat_head t tip arriving previous arrival =
    elim (first_empty t.heads.tips) [
      | None ↦ t
      | Some k ↦ with_heads t (recompute_head t.blocks (put_head t.heads k (new_head tip arrival)) k arriving previous)
    ]

-- a full head table evicts just before the insertion
unfoldable pub make_room : (t : Tables) (active_head : BlockSlot) → Tables
make_room t active_head = elim (first_empty t.heads.tips) [ None ↦ evict_one t active_head | Some k ↦ t ]

unfoldable pub insert_head : (t : Tables) (tip arriving : BlockSlot) (previous : Hash) (arrival : Time) (active_head : BlockSlot) → Tables
insert_head t tip arriving previous arrival active_head = seat_head (make_room t active_head) tip arriving previous arrival

-- ---- the new block's head

-- the head in slot k moves up to the new block
unfoldable pub move_up : (t : Tables) (k : HeadSlot) (block : BlockSlot) (previous : Hash) (arrival : Time) → Tables
move_up t k block previous arrival =
    let h = with_arrivals (with_tips t.heads (set t.heads.tips k block)) (set t.heads.arrivals k arrival) in
    with_heads t (recompute_head t.blocks h k block previous)

-- a parent that is no head counts one more, and a head is inserted
unfoldable pub fork : (t : Tables) (block parent : BlockSlot) (previous : Hash) (arrival : Time) (active_head : BlockSlot) → Tables
fork t block parent previous arrival active_head = insert_head (one_more t parent) block block previous arrival active_head

unfoldable pub place_head : (t : Tables) (block : BlockSlot) (parent : Option BlockSlot) (previous : Hash) (arrival : Time) (active_head : BlockSlot) → Tables
place_head t block None previous arrival active_head = insert_head t block block previous arrival active_head
place_head t block (Some parent) previous arrival active_head =
    elim (slot_of_head t.heads.tips parent) [ Some k ↦ move_up t k block previous arrival | None ↦ fork t block parent previous arrival active_head ]

-- ---- late tails

-- a stored head that misses this hash
unfoldable pub misses : (tips missing connected : List ℕ) (hash : Hash) (k : HeadSlot) → Bool
misses tips missing connected hash k = stored tips connected k && same_hash (hash_at missing k) hash

-- its tail is not the new block, is one higher in sequence and has no parent
unfoldable pub late : (parents sequences tips tails missing connected : List ℕ) (block : BlockSlot) (sequence : Sequence) (hash : Hash) (k : HeadSlot) → Bool
late parents sequences tips tails missing connected block sequence hash k =
    let i = tail_at tails k in
    misses tips missing connected hash k && not (eqb i block)
    && occupied sequences i && eqb (parent_at parents i) NONE && eqb (sequence_at sequences i) (suc sequence)

-- of the tables as they stand
abbrev pub is_late : (t : Tables) (block : BlockSlot) (sequence : Sequence) (hash : Hash) (k : HeadSlot) → Bool
is_late t block sequence hash k =
    late t.blocks.parents t.blocks.sequences t.heads.tips t.heads.tails t.heads.missing t.heads.connected block sequence hash k

-- a link clears the new block's own head if it has one, else it adds 1 to its count
unfoldable pub joined : (t : Tables) (block : BlockSlot) → Tables
joined t block =
    elim (slot_of_head t.heads.tips block) [
      | Some k ↦ with_heads t (clear t.heads k)
      | None ↦ one_more t block
    ]

unfoldable pub link : (t : Tables) (block : BlockSlot) (k : HeadSlot) → Tables
link t block k =
    joined (with_blocks t (with_parents t.blocks (resolve_parent t.blocks.parents (tail_at t.heads.tails k) block))) block

unfoldable pub link_late : (block : BlockSlot) (sequence : Sequence) (hash : Hash) (k : HeadSlot) (t : Tables) → Tables
link_late block sequence hash k t = if is_late t block sequence hash k then link t block k else t

-- the heads that missed the hash
unfoldable pub recompute_missed : (b : Blocks) (block : BlockSlot) (hash previous : Hash) (k : HeadSlot) (h : Heads) → Heads
recompute_missed b block hash previous k h = if misses h.tips h.missing h.connected hash k then recompute_head b h k block previous else h

-- first all links in head-slot order, then the caches
unfoldable pub link_tails : (t : Tables) (block : BlockSlot) (sequence : Sequence) (hash : Hash) → Tables
link_tails t block sequence hash = in_order (link_late block sequence hash) (slots_of t.heads.tips) t

unfoldable pub recompute_missing : (t : Tables) (block : BlockSlot) (hash previous : Hash) → Tables
recompute_missing t block hash previous =
    with_heads t (in_order (recompute_missed t.blocks block hash previous) (slots_of t.heads.tips) t.heads)

-- left out where the eviction freed the new block itself
unfoldable pub resolve_tails : (t : Tables) (block : BlockSlot) (previous : Hash) → Tables
resolve_tails t block previous =
    if occupied t.blocks.sequences block
    then recompute_missing (link_tails t block (sequence_at t.blocks.sequences block) (hash_at t.blocks.hashes block)) block (hash_at t.blocks.hashes block) previous
    else t

-- the new block counts 1
unfoldable pub admitted : (t : Tables) (block : BlockSlot) (parent : Option BlockSlot) (previous : Hash) (arrival : Time) (active_head : BlockSlot) → Tables
admitted t block parent previous arrival active_head =
    resolve_tails (place_head (one_more t block) block parent previous arrival active_head) block previous

-- ---- admit's added step

-- a stored head whose cached tail is occupied and now has a parent
unfoldable pub outgrown : (parents sequences tips tails connected : List ℕ) (k : HeadSlot) → Bool
outgrown parents sequences tips tails connected k =
    stored tips connected k && occupied sequences (tail_at tails k) && not (eqb (parent_at parents (tail_at tails k)) NONE)

unfoldable pub refresh_outgrown : (b : Blocks) (k : HeadSlot) (h : Heads) → Heads
refresh_outgrown b k h =
    if outgrown b.parents b.sequences h.tips h.tails h.connected k
    then with_caches h (refresh_head b.parents b.sequences b.flags h.tips (caches h) (tip_at h.tips k))
    else h

unfoldable pub refresh_tails : (t : Tables) → Tables
refresh_tails t = with_heads t (in_order (refresh_outgrown t.blocks) (slots_of t.heads.tips) t.heads)
