-- The records (01, "Records"): the two tables as a list a field, how a cell is read, and the fixed empty records.
use denote.MutBor.{MutBor}
use denote.Triple.Both.{Both}
use Rattle.std.specs.Prelude.{Bool, not, ◌&&◌, List, ℕ, ◌+◌, ◌*◌, ◌/◌, ◌%◌, min, eqb, length, get_or, set, replicate, if◌then◌else◌, is_some}
use Rattle.rules.specs.Kinds.{BlockSlot, HeadSlot, Sequence, Time, Hash}
use Rattle.rules.specs.Common.{lowest, count_below}
use Rattle.rules.specs.Hashes.{hash_length, zero_hash, hash_at, put_hash}
use Rattle.rules.specs.declared.Block.{Block}
use Rattle.rules.specs.declared.Head.{Head}
use Rattle.rules.specs.declared.View.{View}
use Rattle.rules.specs.declared.BlockStatus.{BlockStatus}
use Rattle.rules.specs.declared.BlockStatus.TheVariants.{Stored, Connected, Active}

-- NONE_REF: no slot, and the sequence of an empty slot
abbrev pub NONE : ℕ
NONE = 4294967295

-- ---- the tables

pub record Blocks : Type 0 where
  pub hashes : List ℕ
  pub parents : List ℕ
  pub sequences : List ℕ
  pub counts : List ℕ
  pub flags : List ℕ

pub record Heads : Type 0 where
  pub tips : List ℕ
  pub tails : List ℕ
  pub missing : List ℕ
  pub requested : List ℕ
  pub arrivals : List ℕ
  pub connected : List ℕ

pub record Tables : Type 0 where
  pub blocks : Blocks
  pub heads : Heads

abbrev pub blocks_of : (hashes parents sequences counts flags : List ℕ) → Blocks
blocks_of h p s c f = record { hashes = h; parents = p; sequences = s; counts = c; flags = f }

abbrev pub heads_of : (tips tails missing requested arrivals connected : List ℕ) → Heads
heads_of t l m r a c = record { tips = t; tails = l; missing = m; requested = r; arrivals = a; connected = c }

abbrev pub tables_of : (hashes parents sequences counts flags tips tails missing requested arrivals connected : List ℕ) → Tables
tables_of h p s c f t l m r a k = record { blocks = blocks_of h p s c f; heads = heads_of t l m r a k }

-- what is lent to be read
abbrev pub viewed : (view : View) → Tables
viewed v =
    tables_of v.hashes.now v.parents.now v.sequences.now v.counts.now v.flags.now
    v.tips.now v.tails.now v.missing.now v.requested.now v.arrivals.now v.connected.now

-- what the caches are kept in; tips and arrival times are not among them
pub record Caches : Type 0 where
  pub tails : List ℕ
  pub missing : List ℕ
  pub requested : List ℕ
  pub connected : List ℕ

abbrev pub caches_of : (tails missing requested connected : List ℕ) → Caches
caches_of l m r c = record { tails = l; missing = m; requested = r; connected = c }

-- ---- a buffer that a call is lent and may write: as it stood at the call's entry, and at its end

abbrev pub Lent : Type 0
Lent = Both (MutBor (List ℕ)) (MutBor (List ℕ))

-- ---- one field or one table is another

abbrev pub with_blocks : (t : Tables) (b : Blocks) → Tables
with_blocks t b = record { blocks = b; heads = t.heads }

abbrev pub with_heads : (t : Tables) (h : Heads) → Tables
with_heads t h = record { blocks = t.blocks; heads = h }

abbrev pub with_parents : (b : Blocks) (parents : List ℕ) → Blocks
with_parents b parents = record { hashes = b.hashes; parents = parents; sequences = b.sequences; counts = b.counts; flags = b.flags }

abbrev pub with_counts : (b : Blocks) (counts : List ℕ) → Blocks
with_counts b counts = record { hashes = b.hashes; parents = b.parents; sequences = b.sequences; counts = counts; flags = b.flags }

abbrev pub with_flags : (b : Blocks) (flags : List ℕ) → Blocks
with_flags b flags = record { hashes = b.hashes; parents = b.parents; sequences = b.sequences; counts = b.counts; flags = flags }

abbrev pub with_tips : (h : Heads) (tips : List ℕ) → Heads
with_tips h tips = record { tips = tips; tails = h.tails; missing = h.missing; requested = h.requested; arrivals = h.arrivals; connected = h.connected }

abbrev pub with_requested : (h : Heads) (requested : List ℕ) → Heads
with_requested h requested = record { tips = h.tips; tails = h.tails; missing = h.missing; requested = requested; arrivals = h.arrivals; connected = h.connected }

abbrev pub with_arrivals : (h : Heads) (arrivals : List ℕ) → Heads
with_arrivals h arrivals = record { tips = h.tips; tails = h.tails; missing = h.missing; requested = h.requested; arrivals = arrivals; connected = h.connected }

abbrev pub caches : (h : Heads) → Caches
caches h = caches_of h.tails h.missing h.requested h.connected

abbrev pub with_caches : (h : Heads) (c : Caches) → Heads
with_caches h c = record { tips = h.tips; tails = c.tails; missing = c.missing; requested = c.requested; arrivals = h.arrivals; connected = c.connected }

-- ---- slots

-- how many slots a field has; NONE_REF names none, so no table has more than that
unfoldable pub slots_of : (field : List ℕ) → ℕ
slots_of field = min (length field) NONE

-- ---- cells; past the end of a field stands what an empty record has

abbrev pub sequence_at : (sequences : List ℕ) (i : BlockSlot) → Sequence
sequence_at sequences i = get_or sequences i NONE

abbrev pub parent_at : (parents : List ℕ) (i : BlockSlot) → BlockSlot
parent_at parents i = get_or parents i NONE

abbrev pub count_at : (counts : List ℕ) (i : BlockSlot) → ℕ
count_at counts i = get_or counts i 0

abbrev pub flags_at : (flags : List ℕ) (i : BlockSlot) → ℕ
flags_at flags i = get_or flags i 0

abbrev pub tip_at : (tips : List ℕ) (k : HeadSlot) → BlockSlot
tip_at tips k = get_or tips k NONE

abbrev pub tail_at : (tails : List ℕ) (k : HeadSlot) → BlockSlot
tail_at tails k = get_or tails k NONE

abbrev pub requested_at : (requested : List ℕ) (k : HeadSlot) → Time
requested_at requested k = get_or requested k 0

-- a block slot is empty when its sequence is NONE_REF
unfoldable pub occupied : (sequences : List ℕ) (i : BlockSlot) → Bool
occupied sequences i = not (eqb (sequence_at sequences i) NONE)

-- a head is empty when its tip is NONE_REF
unfoldable pub used : (tips : List ℕ) (k : HeadSlot) → Bool
used tips k = not (eqb (tip_at tips k) NONE)

-- ---- flags: bit 0 of a byte, and bits 1 and 2 as a number

abbrev pub bit0 : (byte : ℕ) → Bool
bit0 byte = eqb (byte % 2) 1

abbrev pub with_bit0 : (byte : ℕ) (on : Bool) → ℕ
with_bit0 byte on = byte / 2 * 2 + (if on then 1 else 0)

-- a block is on the active chain when bit 0 of its flags is set
unfoldable pub active : (flags : List ℕ) (i : BlockSlot) → Bool
active flags i = bit0 (flags_at flags i)

unfoldable pub is_connected : (connected : List ℕ) (k : HeadSlot) → Bool
is_connected connected k = bit0 (get_or connected k 0)

-- a stored head: in use, and not connected
unfoldable pub stored : (tips connected : List ℕ) (k : HeadSlot) → Bool
stored tips connected k = used tips k && not (is_connected connected k)

-- how many heads are in use
unfoldable pub head_count : (tips : List ℕ) → ℕ
head_count tips = count_below (used tips) (slots_of tips)

-- some head is stored
unfoldable pub has_stored_head : (tips connected : List ℕ) → Bool
has_stored_head tips connected = is_some (lowest (stored tips connected) (slots_of tips))

-- the number of a status
abbrev pub status_number : (status : BlockStatus) → ℕ
status_number Stored = 0
status_number Connected = 1
status_number Active = 2

-- 1 is Connected, 2 Active, any other number Stored
unfoldable pub status_from : (number : ℕ) → ℕ
status_from n = if eqb n 1 then 1 else if eqb n 2 then 2 else 0

-- 3 reads as Stored
unfoldable pub status_of : (flags : ℕ) → ℕ
status_of flags = if eqb (flags / 2 % 4) 3 then 0 else flags / 2 % 4

unfoldable pub with_status : (flags status : ℕ) → ℕ
with_status flags status = flags / 8 * 8 + status * 2 + flags % 2

-- ---- the empty records, and a record as a whole

abbrev pub block_of : (hash : Hash) (parent : BlockSlot) (sequence : Sequence) (count flags : ℕ) → Block
block_of h p s c f = record { hash = h; parent = record { 0 = p }; sequence = record { 0 = s }; count = c; flags = f }

abbrev pub empty_block : Block
empty_block = block_of zero_hash NONE NONE 0 0

abbrev pub head_of : (tip tail : BlockSlot) (missing : Hash) (requested arrival : Time) (connected : ℕ) → Head
head_of t l m r a c = record { tip = record { 0 = t }; tail = record { 0 = l }; missing = m; requested = r; arrival = a; connected = c }

abbrev pub empty_head : Head
empty_head = head_of NONE NONE zero_hash 0 0 0

unfoldable pub block_at : (b : Blocks) (i : BlockSlot) → Block
block_at b i = record {
  hash = hash_at b.hashes i;
  parent = record { 0 = parent_at b.parents i };
  sequence = record { 0 = sequence_at b.sequences i };
  count = count_at b.counts i;
  flags = flags_at b.flags i;
}

unfoldable pub head_at : (h : Heads) (k : HeadSlot) → Head
head_at h k = record {
  tip = record { 0 = tip_at h.tips k };
  tail = record { 0 = tail_at h.tails k };
  missing = hash_at h.missing k;
  requested = requested_at h.requested k;
  arrival = get_or h.arrivals k 0;
  connected = get_or h.connected k 0;
}

unfoldable pub put_block : (b : Blocks) (i : BlockSlot) (block : Block) → Blocks
put_block b i block = record {
  hashes = put_hash b.hashes i block.hash;
  parents = set b.parents i block.parent.0;
  sequences = set b.sequences i block.sequence.0;
  counts = set b.counts i block.count;
  flags = set b.flags i block.flags;
}

unfoldable pub put_head : (h : Heads) (k : HeadSlot) (head : Head) → Heads
put_head h k head = record {
  tips = set h.tips k head.tip.0;
  tails = set h.tails k head.tail.0;
  missing = put_hash h.missing k head.missing;
  requested = set h.requested k head.requested;
  arrivals = set h.arrivals k head.arrival;
  connected = set h.connected k head.connected;
}

-- a slot or a head becomes the empty record
abbrev pub erase : (b : Blocks) (i : BlockSlot) → Blocks
erase b i = put_block b i empty_block

abbrev pub clear : (h : Heads) (k : HeadSlot) → Heads
clear h k = put_head h k empty_head

-- ---- all records empty

unfoldable pub empty_blocks : (n : ℕ) → Blocks
empty_blocks n = record {
  hashes = replicate (n * hash_length) 0;
  parents = replicate n NONE;
  sequences = replicate n NONE;
  counts = replicate n 0;
  flags = replicate n 0;
}

unfoldable pub empty_heads : (m : ℕ) → Heads
empty_heads m = record {
  tips = replicate m NONE;
  tails = replicate m NONE;
  missing = replicate (m * hash_length) 0;
  requested = replicate m 0;
  arrivals = replicate m 0;
  connected = replicate m 0;
}

-- every cell as an empty record has it, whatever the lengths of the fields
abbrev pub blocks_emptied : (b : Blocks) → Blocks
blocks_emptied b = record {
  hashes = replicate (length b.hashes) 0;
  parents = replicate (length b.parents) NONE;
  sequences = replicate (length b.sequences) NONE;
  counts = replicate (length b.counts) 0;
  flags = replicate (length b.flags) 0;
}

abbrev pub heads_emptied : (h : Heads) → Heads
heads_emptied h = record {
  tips = replicate (length h.tips) NONE;
  tails = replicate (length h.tails) NONE;
  missing = replicate (length h.missing) 0;
  requested = replicate (length h.requested) 0;
  arrivals = replicate (length h.arrivals) 0;
  connected = replicate (length h.connected) 0;
}

-- ---- the lengths: a field has one cell for each slot, hashes have 32 bytes

unfoldable pub blocks_fit : (b : Blocks) (n : ℕ) → Bool
blocks_fit b n =
    eqb (length b.hashes) (n * hash_length) && eqb (length b.sequences) n && eqb (length b.counts) n && eqb (length b.flags) n

unfoldable pub heads_fit : (h : Heads) (m : ℕ) → Bool
heads_fit h m =
    eqb (length h.tails) m && eqb (length h.missing) (m * hash_length) && eqb (length h.requested) m && eqb (length h.arrivals) m && eqb (length h.connected) m
