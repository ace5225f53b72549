-- Removal (01, "Removal"): a subtree is freed, its heads with it, and caches and counts are worked out again.
use Rattle.std.specs.Prelude.{Bool, true, false, not, ◌&&◌, List, [], ◌∷◌, ℕ, max, min, eqb, set, if◌then◌else◌, Option, None, is_some}
use Rattle.rules.specs.Kinds.{BlockSlot, HeadSlot}
use Rattle.rules.specs.Common.{is_at, lowest, in_order}
use Rattle.rules.specs.Records.{Blocks, Heads, Tables, slots_of, parent_at, tip_at, occupied, used, clear, with_counts, with_tips, with_blocks}
use Rattle.rules.specs.BlockTable.{children, childless, mark_subtree, delete, max_count}
use Rattle.rules.specs.Caches.{slot_of_head, recompute_heads}

-- ---- counts

-- min(255, max(1, children)); an empty slot keeps its fields
unfoldable pub recount : (parents sequences : List ℕ) (i : BlockSlot) (counts : List ℕ) → List ℕ
recount parents sequences i counts =
    if occupied sequences i then set counts i (min max_count (max 1 (children parents sequences i))) else counts

unfoldable pub recount_all : (parents sequences counts : List ℕ) → List ℕ
recount_all parents sequences counts = in_order (recount parents sequences) (slots_of sequences) counts

abbrev pub recounted : (b : Blocks) → Blocks
recounted b = with_counts b (recount_all b.parents b.sequences b.counts)

-- ---- heads of freed blocks

unfoldable pub listed : (deleted : List BlockSlot) (i : BlockSlot) → Bool
listed [] i = false
listed (x ∷ xs) i = if eqb x i then true else listed xs i

unfoldable pub head_freed : (tips : List ℕ) (deleted : List BlockSlot) (k : HeadSlot) → Bool
head_freed tips deleted k = used tips k && listed deleted (tip_at tips k)

-- the root's parent takes over a head: it is occupied, now childless and no head
unfoldable pub takes_over : (parents sequences tips : List ℕ) (parent : BlockSlot) → Bool
takes_over parents sequences tips parent =
    occupied sequences parent && not (is_some (slot_of_head tips parent)) && childless parents sequences parent

-- the lowest head whose tip was freed is the one that moves
unfoldable pub heir : (parents sequences tips : List ℕ) (deleted : List BlockSlot) (parent : BlockSlot) → Option HeadSlot
heir parents sequences tips deleted parent =
    if takes_over parents sequences tips parent then lowest (head_freed tips deleted) (slots_of tips) else None

-- the rest are emptied
unfoldable pub drop_head : (deleted : List BlockSlot) (moving : Option HeadSlot) (parent : BlockSlot) (k : HeadSlot) (h : Heads) → Heads
drop_head deleted moving parent k h =
    if is_at moving k then with_tips h (set h.tips k parent)
    else if head_freed h.tips deleted k then clear h k
    else h

unfoldable pub drop_heads : (deleted : List BlockSlot) (moving : Option HeadSlot) (parent : BlockSlot) (h : Heads) → Heads
drop_heads deleted moving parent h = in_order (drop_head deleted moving parent) (slots_of h.tips) h

unfoldable pub blocks_deleted : (t : Tables) (deleted : List BlockSlot) (parent : BlockSlot) → Tables
blocks_deleted t deleted parent = record {
  blocks = recounted t.blocks;
  heads = recompute_heads t.blocks (drop_heads deleted (heir t.blocks.parents t.blocks.sequences t.heads.tips deleted parent) parent t.heads);
}

-- ---- remove marks, frees, and goes on with the root's parent

unfoldable pub free_all : (deleted : List BlockSlot) (b : Blocks) → Blocks
free_all [] b = b
free_all (i ∷ is) b = free_all is (delete b i)

abbrev pub list_removed : (t : Tables) (deleted : List BlockSlot) (parent : BlockSlot) → Tables
list_removed t deleted parent = blocks_deleted (with_blocks t (free_all deleted t.blocks)) deleted parent

unfoldable pub removed : (t : Tables) (root : BlockSlot) → Tables
removed t root = list_removed t (mark_subtree t.blocks.parents t.blocks.sequences root) (parent_at t.blocks.parents root)
