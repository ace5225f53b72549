-- The block table (01, "Block table").
use Rattle.std.specs.Prelude.{Bool, true, false, not, ◌&&◌, List, [], ℕ, zero, suc, ◌+◌, ◌-◌, min, eqb, ltb, ℤ, pos, negsuc, set, if◌then◌else◌, Option, None, Some}
use Rattle.rules.specs.Kinds.{BlockSlot, Sequence, Hash}
use Rattle.rules.specs.Common.{lowest, count_below, all_below}
use Rattle.rules.specs.Hashes.{hash_at, same_hash}
use Rattle.rules.specs.Records.{NONE, Blocks, slots_of, sequence_at, parent_at, count_at, flags_at, occupied, active, with_bit0, status_of, with_status, block_at, put_block, erase, with_counts}
use Rattle.rules.specs.declared.Block.{Block}

-- ---- looking

-- slot i holds the block of this sequence and hash
unfoldable pub is_block : (hashes sequences : List ℕ) (sequence : Sequence) (hash : Hash) (i : BlockSlot) → Bool
is_block hashes sequences sequence hash i =
    occupied sequences i && eqb (sequence_at sequences i) sequence && same_hash (hash_at hashes i) hash

-- the lowest slot with this sequence and hash
unfoldable pub find : (hashes sequences : List ℕ) (sequence : Sequence) (hash : Hash) → Option BlockSlot
find hashes sequences sequence hash = lowest (is_block hashes sequences sequence hash) (slots_of sequences)

-- the lowest empty slot
unfoldable pub next_free : (sequences : List ℕ) → Option BlockSlot
next_free sequences = lowest (λ i. not (occupied sequences i)) (slots_of sequences)

-- the block one lower in sequence with the previous hash; sequence 0 has no parent
unfoldable pub find_parent : (hashes sequences : List ℕ) (sequence : Sequence) (previous : Hash) → Option BlockSlot
find_parent hashes sequences sequence previous =
    if eqb sequence 0 then None else find hashes sequences (sequence - 1) previous

-- nothing for an empty or out-of-range slot
unfoldable pub get : (b : Blocks) (i : BlockSlot) → Option Block
get b i = if occupied b.sequences i then Some (block_at b i) else None

unfoldable pub head_ref_count : (sequences counts : List ℕ) (i : BlockSlot) → Option ℕ
head_ref_count sequences counts i = if occupied sequences i then Some (count_at counts i) else None

unfoldable pub status_at : (sequences flags : List ℕ) (i : BlockSlot) → Option ℕ
status_at sequences flags i = if occupied sequences i then Some (status_of (flags_at flags i)) else None

-- ---- children

-- j is an occupied slot whose parent slot is i
unfoldable pub child_of : (parents sequences : List ℕ) (i j : BlockSlot) → Bool
child_of parents sequences i j = occupied sequences j && eqb (parent_at parents j) i

unfoldable pub children : (parents sequences : List ℕ) (i : BlockSlot) → ℕ
children parents sequences i = count_below (child_of parents sequences i) (slots_of sequences)

unfoldable pub childless : (parents sequences : List ℕ) (i : BlockSlot) → Bool
childless parents sequences i = eqb (children parents sequences i) 0

-- ---- walks to the parents, at most so many tries

unfoldable pub reaches : (parents sequences : List ℕ) (root : BlockSlot) (tries : ℕ) (i : BlockSlot) → Bool
reaches parents sequences root zero i = false
reaches parents sequences root (suc tries) i =
    if eqb i root then true
    else if not (occupied sequences i) then false
    else if eqb (parent_at parents i) NONE then false
    else reaches parents sequences root tries (parent_at parents i)

unfoldable pub in_subtree : (parents sequences : List ℕ) (root i : BlockSlot) → Bool
in_subtree parents sequences root i = occupied sequences i && reaches parents sequences root (slots_of sequences) i

-- in slot order the blocks whose walk reaches the root in n tries; none for an empty or out-of-range root
unfoldable pub mark_subtree : (parents sequences : List ℕ) (root : BlockSlot) → List BlockSlot
mark_subtree parents sequences root =
    if occupied sequences root then all_below (in_subtree parents sequences root) (slots_of sequences) else []

unfoldable pub walks_to_active : (parents sequences flags : List ℕ) (tries : ℕ) (i : BlockSlot) → Bool
walks_to_active parents sequences flags zero i = false
walks_to_active parents sequences flags (suc tries) i =
    if not (occupied sequences i) then false
    else if active flags i then true
    else if eqb (parent_at parents i) NONE then false
    else walks_to_active parents sequences flags tries (parent_at parents i)

unfoldable pub walks_to_active_chain : (parents sequences flags : List ℕ) (i : BlockSlot) → Bool
walks_to_active_chain parents sequences flags i = walks_to_active parents sequences flags (slots_of sequences) i

-- ---- changes

abbrev pub max_count : ℕ
max_count = 255

abbrev pub minus_one : ℤ
minus_one = negsuc 0

-- a signed change, which stops at 0 and 255
unfoldable pub adjusted : (count : ℕ) (change : ℤ) → ℕ
adjusted count (pos up) = min max_count (count + up)
adjusted count (negsuc down) = count - suc down

-- the new count; nothing on an empty slot
unfoldable pub adjusted_at : (sequences counts : List ℕ) (i : BlockSlot) (change : ℤ) → Option ℕ
adjusted_at sequences counts i change =
    if occupied sequences i then Some (adjusted (count_at counts i) change) else None

unfoldable pub adjust_counts : (sequences counts : List ℕ) (i : BlockSlot) (change : ℤ) → List ℕ
adjust_counts sequences counts i change =
    if occupied sequences i then set counts i (adjusted (count_at counts i) change) else counts

-- an empty slot keeps its fields
unfoldable pub set_occupied : {Cell : Type 0} (sequences : List ℕ) (field : List Cell) (i : BlockSlot) (value : Cell) → List Cell
set_occupied sequences field i value = if occupied sequences i then set field i value else field

unfoldable pub set_on_active_chain : (sequences flags : List ℕ) (i : BlockSlot) (on : Bool) → List ℕ
set_on_active_chain sequences flags i on = set_occupied sequences flags i (with_bit0 (flags_at flags i) on)

unfoldable pub set_status : (sequences flags : List ℕ) (i : BlockSlot) (status : ℕ) → List ℕ
set_status sequences flags i status = set_occupied sequences flags i (with_status (flags_at flags i) status)

-- an occupied slot becomes the empty record
unfoldable pub delete : (b : Blocks) (i : BlockSlot) → Blocks
delete b i = if occupied b.sequences i then erase b i else b

-- beyond n nothing changes
unfoldable pub insert_at : (b : Blocks) (i : BlockSlot) (block : Block) → Blocks
insert_at b i block = if ltb i (slots_of b.sequences) then put_block b i block else b

-- what insert answers: the block's slot, or why it has none
pub data Insertion : Type 0 where
  into_slot : (i : BlockSlot) → Insertion
  reserved : Insertion
  full : Insertion

-- the lowest empty slot; a block of the reserved sequence gets none, and a full table has none
unfoldable pub insertion : (sequences : List ℕ) (block : Block) → Insertion
insertion sequences block =
    if eqb block.sequence.0 NONE then reserved else elim (next_free sequences) [ None ↦ full | Some i ↦ into_slot i ]

unfoldable pub insert : (b : Blocks) (block : Block) → Blocks
insert b block = elim (insertion b.sequences block) [ into_slot i ↦ insert_at b i block | reserved ↦ b | full ↦ b ]

-- an empty slot is written too
unfoldable pub resolve_parent : (parents : List ℕ) (i parent : BlockSlot) → List ℕ
resolve_parent parents i parent = set parents i parent

-- an empty slot keeps its parent
unfoldable pub set_parent : (parents sequences : List ℕ) (i parent : BlockSlot) → List ℕ
set_parent parents sequences i parent = set_occupied sequences parents i parent

unfoldable pub adjust : (b : Blocks) (i : BlockSlot) (change : ℤ) → Blocks
adjust b i change = with_counts b (adjust_counts b.sequences b.counts i change)
