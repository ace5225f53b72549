-- The children of every block in lists, and what is met on the way down them.
use Rattle.std.specs.Prelude.{◌≡◌, ◌⊎◌, true, List, ℕ, zero, suc, ◌≤◌, ◌<◌, eqb, length, get_or, if◌then◌else◌}
use Rattle.rules.specs.Kinds.{BlockSlot}
use Rattle.rules.specs.Records.{NONE, slots_of, parent_at, occupied}
use Rattle.rules.specs.BlockTable.{child_of}
use Rattle.rules.specs.Calls.{max_blocks}

-- ---- the lists

-- the highest child of i below k; NONE_REF where there is none
unfoldable pub last_child : (parents sequences : List ℕ) (i : BlockSlot) (k : ℕ) → BlockSlot
last_child parents sequences i zero = NONE
last_child parents sequences i (suc k) = if child_of parents sequences i k then k else last_child parents sequences i k

-- the blocks below k are listed: each slot has its highest child among them, each of them the next lower child of its parent
pub record Listed (parents sequences : List ℕ) (k : ℕ) (first next : List ℕ) : Type 0 where
  pub holds : slots_of sequences ≤ length first
  pub holds_next : slots_of sequences ≤ length next
  pub firsts : (i : BlockSlot) → i < length first → get_or first i NONE ≡ last_child parents sequences i k
  pub nexts : (i : BlockSlot) → i < k → occupied sequences i ≡ true → parent_at parents i < length first
      → get_or next i NONE ≡ last_child parents sequences (parent_at parents i) i

-- a child of one of the n slots
pub record Child (parents sequences : List ℕ) (i : BlockSlot) : Type 0 where
  pub within : i < slots_of sequences
  pub there : occupied sequences i ≡ true
  pub below : parent_at parents i < slots_of sequences

-- all blocks of a table of a call's size are listed, and i is one of the children, or past the end of a list
pub record Placed (parents sequences first next : List ℕ) (i : BlockSlot) : Type 0 where
  pub small : slots_of sequences ≤ max_blocks
  pub lists : Listed parents sequences (slots_of sequences) first next
  pub place : (i ≡ NONE) ⊎ Child parents sequences i

-- ---- the way down

-- what the children of i below k come to together, each by f
unfoldable pub children_below : (op : ℕ → ℕ → ℕ) (f : BlockSlot → ℕ) (parents sequences : List ℕ) (i : BlockSlot) (k : ℕ) → ℕ
children_below op f parents sequences i zero = 0
children_below op f parents sequences i (suc k) =
    if child_of parents sequences i k
    then op (children_below op f parents sequences i k) (f k)
    else children_below op f parents sequences i k

-- a block of so many levels with its own, and its children at a level less
unfoldable pub down : (op : ℕ → ℕ → ℕ) (own : BlockSlot → ℕ) (parents sequences : List ℕ) (levels : ℕ) (i : BlockSlot) → ℕ
down op own parents sequences zero i = 0
down op own parents sequences (suc levels) i =
    op (own i) (children_below op (down op own parents sequences levels) parents sequences i (slots_of sequences))

-- a child and the siblings below it
unfoldable pub down_from : (op : ℕ → ℕ → ℕ) (own : BlockSlot → ℕ) (parents sequences : List ℕ) (levels : ℕ) (i : BlockSlot) → ℕ
down_from op own parents sequences levels i =
    if eqb i NONE then 0
    else children_below op (down op own parents sequences levels) parents sequences (parent_at parents i) (suc i)
