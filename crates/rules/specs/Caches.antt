-- The caches of a head (01, "Caches"): flag, anchor, missing hash and request time, from the walk of its tip.
use Rattle.std.specs.Prelude.{Bool, true, false, ◌&&◌, List, ℕ, ◌*◌, eqb, leb, get_or, set, take, drop, if◌then◌else◌, Option, None, Some}
use Rattle.rules.specs.Kinds.{BlockSlot, HeadSlot, Hash}
use Rattle.rules.specs.Common.{lowest, in_order}
use Rattle.rules.specs.Hashes.{hash_length, zero_hash, hash_at, put_hash}
use Rattle.rules.specs.Records.{NONE, Blocks, Heads, slots_of, tip_at, tail_at, used, is_connected, stored, with_bit0, Caches, caches, with_caches}
use Rattle.rules.specs.Anchor.{Anchor, connection, tail, locate_anchor}

-- a stored head with this cached tail
unfoldable pub waits_at : (tips tails connected : List ℕ) (i : BlockSlot) (k : HeadSlot) → Bool
waits_at tips tails connected i k = stored tips connected k && eqb (tail_at tails k) i

-- the lowest stored head with this cached tail; the head itself where there is none
unfoldable pub knowing : (tips tails connected : List ℕ) (i : BlockSlot) (k : HeadSlot) → HeadSlot
knowing tips tails connected i k =
    elim (lowest (waits_at tips tails connected i) (slots_of tips)) [ None ↦ k | Some j ↦ j ]

-- the missing hash is a part of the arriving block's previous hash where the tail is that block, else of the heads' hashes
unfoldable pub missing_part : (previous : Hash) (missing : List ℕ) (at arriving : BlockSlot) (k : HeadSlot) → Hash
missing_part previous missing at arriving k =
    if eqb at arriving then take hash_length previous else take hash_length (drop (k * hash_length) missing)

-- that part, read as a hash, is what head k misses with this tail
abbrev pub missing_kept : (tips tails missing connected : List ℕ) (k : HeadSlot) (at arriving : BlockSlot) (previous : Hash) → List ℕ
missing_kept tips tails missing connected k at arriving previous =
    put_hash missing k (hash_at (missing_part previous missing at arriving (knowing tips tails connected at k)) 0)

abbrev pub connection_kept : (c : Caches) (k : HeadSlot) (at : BlockSlot) → Caches
connection_kept c k at = record {
  tails = set c.tails k at;
  missing = put_hash c.missing k zero_hash;
  requested = set c.requested k 0;
  connected = set c.connected k (with_bit0 (get_or c.connected k 0) true);
}

abbrev pub tail_kept : (tips : List ℕ) (c : Caches) (k : HeadSlot) (at arriving : BlockSlot) (previous : Hash) → Caches
tail_kept tips c k at arriving previous =
    let tails = set c.tails k at in
    let connected = set c.connected k (with_bit0 (get_or c.connected k 0) false) in
    record {
      tails = tails;
      missing = missing_kept tips tails c.missing connected k at arriving previous;
      requested = c.requested;
      connected = connected;
    }

unfoldable pub keep : (tips : List ℕ) (c : Caches) (k : HeadSlot) (anchor : Anchor) (arriving : BlockSlot) (previous : Hash) → Caches
keep tips c k (connection at) arriving previous = connection_kept c k at
keep tips c k (tail at) arriving previous = tail_kept tips c k at arriving previous

-- of the head in slot k; the arriving block is NONE_REF where there is none
unfoldable pub recompute : (parents sequences flags tips : List ℕ) (c : Caches) (k : HeadSlot) (arriving : BlockSlot) (previous : Hash) → Caches
recompute parents sequences flags tips c k arriving previous =
    keep tips c k (locate_anchor parents sequences flags (tip_at tips k)) arriving previous

-- ---- of several heads

-- the lowest head slot with this tip
unfoldable pub slot_of_head : (tips : List ℕ) (tip : BlockSlot) → Option HeadSlot
slot_of_head tips tip = lowest (λ k. used tips k && eqb (tip_at tips k) tip) (slots_of tips)

unfoldable pub refresh_head : (parents sequences flags tips : List ℕ) (c : Caches) (tip : BlockSlot) → Caches
refresh_head parents sequences flags tips c tip =
    elim (slot_of_head tips tip) [ None ↦ c | Some k ↦ recompute parents sequences flags tips c k NONE zero_hash ]

unfoldable pub recompute_used : (parents sequences flags tips : List ℕ) (k : HeadSlot) (c : Caches) → Caches
recompute_used parents sequences flags tips k c =
    if used tips k then recompute parents sequences flags tips c k NONE zero_hash else c

unfoldable pub recompute_all : (parents sequences flags tips : List ℕ) (c : Caches) → Caches
recompute_all parents sequences flags tips c = in_order (recompute_used parents sequences flags tips) (slots_of tips) c

-- the heads with the caches of the one in slot k worked out again
abbrev pub head_recomputed : (parents sequences flags : List ℕ) (h : Heads) (k : HeadSlot) (arriving : BlockSlot) (previous : Hash) → Heads
head_recomputed parents sequences flags h k arriving previous =
    with_caches h (recompute parents sequences flags h.tips (caches h) k arriving previous)

abbrev pub recompute_head : (b : Blocks) (h : Heads) (k : HeadSlot) (arriving : BlockSlot) (previous : Hash) → Heads
recompute_head b h k arriving previous = head_recomputed b.parents b.sequences b.flags h k arriving previous

abbrev pub recompute_heads : (b : Blocks) (h : Heads) → Heads
recompute_heads b h = with_caches h (recompute_all b.parents b.sequences b.flags h.tips (caches h))

-- ---- one head

-- a head in use: its slot, its tip and its anchor
pub record HeadInUse : Type 0 where
  pub slot : HeadSlot
  pub tip : BlockSlot
  pub anchor : BlockSlot

-- the lowest head in use from this slot on
unfoldable pub next_used : (tips : List ℕ) (from : HeadSlot) → Option HeadSlot
next_used tips from = lowest (λ k. leb from k && used tips k) (slots_of tips)

unfoldable pub next_head : (tips tails : List ℕ) (from : HeadSlot) → Option HeadInUse
next_head tips tails from =
    elim (next_used tips from) [ None ↦ None | Some k ↦ Some (record { slot = k; tip = tip_at tips k; anchor = tail_at tails k }) ]

-- the tip of a connected head
unfoldable pub connected_head_at : (tips connected : List ℕ) (k : HeadSlot) → Option BlockSlot
connected_head_at tips connected k = if used tips k && is_connected connected k then Some (tip_at tips k) else None

-- the tail of a stored head
unfoldable pub stored_head_tail : (tips tails connected : List ℕ) (k : HeadSlot) → Option BlockSlot
stored_head_tail tips tails connected k = if stored tips connected k then Some (tail_at tails k) else None

-- an empty head keeps its missing hash
unfoldable pub set_missing : (tips missing : List ℕ) (k : HeadSlot) (hash : Hash) → List ℕ
set_missing tips missing k hash = if used tips k then put_hash missing k hash else missing
