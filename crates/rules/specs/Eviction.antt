-- Eviction (01, "Eviction"): which head goes, and which blocks go with it.
use Rattle.std.specs.Prelude.{Bool, not, ◌&&◌, ◌||◌, List, ℕ, zero, suc, eqb, ltb, if◌then◌else◌, Option, None, Some}
use Rattle.rules.specs.Kinds.{BlockSlot, HeadSlot}
use Rattle.rules.specs.Common.{best}
use Rattle.rules.specs.Hashes.{hash_at, hash_less}
use Rattle.rules.specs.Records.{Blocks, Tables, slots_of, sequence_at, parent_at, count_at, tip_at, occupied, active, used, clear}
use Rattle.rules.specs.BlockTable.{adjusted, adjust, delete, minus_one}

-- block i has the lower hash
abbrev pub hash_before : (hashes : List ℕ) (i j : BlockSlot) → Bool
hash_before hashes i j = hash_less (hash_at hashes i) (hash_at hashes j)

-- block i goes before block j: lower sequence, then lower hash
unfoldable pub block_before : (hashes sequences : List ℕ) (i j : BlockSlot) → Bool
block_before hashes sequences i j =
    ltb (sequence_at sequences i) (sequence_at sequences j)
    || (eqb (sequence_at sequences i) (sequence_at sequences j) && hash_before hashes i j)

-- never the active head nor a head with an empty tip
unfoldable pub may_go : (sequences tips : List ℕ) (active_head : BlockSlot) (k : HeadSlot) → Bool
may_go sequences tips active_head k =
    used tips k && not (eqb (tip_at tips k) active_head) && occupied sequences (tip_at tips k)

-- lowest sequence, then lowest hash, then lowest slot
unfoldable pub victim : (hashes sequences tips : List ℕ) (active_head : BlockSlot) → Option HeadSlot
victim hashes sequences tips active_head =
    best (may_go sequences tips active_head) (λ j k. block_before hashes sequences (tip_at tips j) (tip_at tips k)) (slots_of tips)

-- at most so many visits from block i on: each count is lowered by 1, and a block off the active chain is freed at 0
unfoldable pub evict_from : (visits : ℕ) (b : Blocks) (i : BlockSlot) → Blocks
evict_from zero b i = b
evict_from (suc visits) b i =
    if not (occupied b.sequences i) then b
    else if active b.flags i then adjust b i minus_one
    else if eqb (adjusted (count_at b.counts i) minus_one) 0 then evict_from visits (delete (adjust b i minus_one) i) (parent_at b.parents i)
    else adjust b i minus_one

unfoldable pub evict : (t : Tables) (k : HeadSlot) → Tables
evict t k = record {
  blocks = evict_from (slots_of t.blocks.sequences) t.blocks (tip_at t.heads.tips k);
  heads = clear t.heads k;
}

-- without a victim nothing changes
unfoldable pub evict_one : (t : Tables) (active_head : BlockSlot) → Tables
evict_one t active_head =
    elim (victim t.blocks.hashes t.blocks.sequences t.heads.tips active_head) [ None ↦ t | Some k ↦ evict t k ]
