-- Demand 3 (00, and 01 "Lists of calls"): what holds after every list of calls, worked out afresh from the blocks, the
-- calls and their answers; what hangs under a block (02, S-1), beside what `mark_subtree` lists; and the head screen (02, S-2).
use Rattle.std.specs.Prelude.{◌≡◌, ◌≢◌, ◌⊎◌, ◌↔◌, Bool, true, not, ◌&&◌, List, [], ◌∷◌, ◌++◌, ℕ, suc, ◌+◌, ◌*◌, ◌%◌, ◌≤◌, ◌<◌, max, eqb, length, get_or, replicate, if◌then◌else◌, Option, None, Some}
use Rattle.rules.specs.Kinds.{BlockSlot, HeadSlot, Sequence, Time, Hash}
use Rattle.rules.specs.Common.{is_at, count_below}
use Rattle.rules.specs.Hashes.{hash_length, hash_at}
use Rattle.rules.specs.Records.{NONE, Blocks, Tables, empty_block, empty_head, block_at, head_at}
use Rattle.rules.specs.Caches.{slot_of_head}
use Rattle.rules.specs.Eviction.{victim}
use Rattle.rules.specs.Admission.{one_more, first_empty}
use Rattle.rules.specs.Rebuild.{is_leaf, rebuilt_below, headless}
use Rattle.rules.specs.Answers.{Answer, refused, done, slot, freed, hangs, shown, request, none_due, due_at, never_due}
use Rattle.rules.specs.Calls.{State, Call, admit_call, promote_call, remove_call, timer_call, restart_call, step, run, shaped, blocks_in, heads_in, parent_found, inserted, fresh, under, screen}
use Rattle.rules.specs.BlockTable.{max_count, mark_subtree}
use Rattle.rules.specs.declared.HeadRow.{HeadRow}

-- ---- the tables, slot by slot

abbrev pub sequence : (s : State) (i : BlockSlot) → Sequence
sequence s i = get_or s.tables.blocks.sequences i NONE

abbrev pub parent : (s : State) (i : BlockSlot) → BlockSlot
parent s i = get_or s.tables.blocks.parents i NONE

abbrev pub count : (s : State) (i : BlockSlot) → ℕ
count s i = get_or s.tables.blocks.counts i 0

abbrev pub Occupied : (s : State) (i : BlockSlot) → Type 0
Occupied s i = sequence s i ≢ NONE

-- bit 0 of the flags
abbrev pub Active : (s : State) (i : BlockSlot) → Type 0
Active s i = get_or s.tables.blocks.flags i 0 % 2 ≡ 1

abbrev pub tip : (s : State) (k : HeadSlot) → BlockSlot
tip s k = get_or s.tables.heads.tips k NONE

abbrev pub InUse : (s : State) (k : HeadSlot) → Type 0
InUse s k = tip s k ≢ NONE

-- the kept tail or connection slot, and the kept flag
abbrev pub anchor : (s : State) (k : HeadSlot) → BlockSlot
anchor s k = get_or s.tables.heads.tails k NONE

abbrev pub Connected : (s : State) (k : HeadSlot) → Type 0
Connected s k = get_or s.tables.heads.connected k 0 % 2 ≡ 1

-- ---- children, heads, parent walks

abbrev pub is_child : (b : Blocks) (i j : BlockSlot) → Bool
is_child b i j = not (eqb (get_or b.sequences j NONE) NONE) && eqb (get_or b.parents j NONE) i

-- how many slots hold a block whose parent slot is i
unfoldable pub children_of : (b : Blocks) (i : BlockSlot) → ℕ
children_of b i = count_below (is_child b i) (length b.sequences)

abbrev pub children : (s : State) (i : BlockSlot) → ℕ
children s i = children_of s.tables.blocks i

-- a head in use has it as tip
abbrev pub IsHead : (s : State) (i : BlockSlot) → Type 0
IsHead s i = (k : HeadSlot) × InUse s k × (tip s k ≡ i)

-- the visits of a block's parent walk: the block, then those of its parent, if that is a block
pub data Walk (s : State) : BlockSlot → List BlockSlot → Type 0 where
  ends : (i : BlockSlot) (there : Occupied s i) (last : ¬ (Occupied s (parent s i))) → Walk s i (i ∷ [])
  goes : (i : BlockSlot) (visits : List BlockSlot) (there : Occupied s i) (walk : Walk s (parent s i) visits) → Walk s i (i ∷ visits)

pub data Among (a : BlockSlot) : List BlockSlot → Type 0 where
  first : (visits : List BlockSlot) → Among a (a ∷ visits)
  further : (i : BlockSlot) (visits : List BlockSlot) (among : Among a visits) → Among a (i ∷ visits)

abbrev pub MeetsActive : (s : State) (visits : List BlockSlot) → Type 0
MeetsActive s visits = (a : BlockSlot) × Among a visits × Active s a

pub data FirstActive (s : State) (a : BlockSlot) : List BlockSlot → Type 0 where
  here : (visits : List BlockSlot) (active : Active s a) → FirstActive s a (a ∷ visits)
  after : (i : BlockSlot) (visits : List BlockSlot) (inactive : ¬ (Active s i)) (found : FirstActive s a visits)
      → FirstActive s a (i ∷ visits)

pub data Last (a : BlockSlot) : List BlockSlot → Type 0 where
  only : Last a (a ∷ [])
  behind : (i : BlockSlot) (visits : List BlockSlot) (last : Last a visits) → Last a (i ∷ visits)

-- the head is connected exactly when its walk meets an active block; its anchor is the first such block, or else the last block of the walk
pub record Anchored (s : State) (k : HeadSlot) : Type 0 where
  pub visits : List BlockSlot
  pub walk : Walk s (tip s k) visits
  pub connected : Connected s k ↔ MeetsActive s visits
  pub at_first : MeetsActive s visits → FirstActive s (anchor s k) visits
  pub or_last : ¬ (MeetsActive s visits) → Last (anchor s k) visits

-- the line from the record down: from an active block on it to its parent, where that is active too
pub data OnLine (s : State) : BlockSlot → Type 0 where
  start : (active : Active s s.active_head) → OnLine s s.active_head
  down : (i : BlockSlot) (line : OnLine s i) (active : Active s (parent s i)) → OnLine s (parent s i)

-- ---- what a block is called, and what was said of it

pub record Name : Type 0 where
  pub sequence : Sequence
  pub hash : Hash

abbrev pub name : (s : State) (i : BlockSlot) → Name
name s i = record { sequence = sequence s i; hash = hash_at s.tables.blocks.hashes i }

-- a call of a list with its answer
pub record Made : Type 0 where
  pub call : Call
  pub answer : Answer

unfoldable pub made : (s : State) (calls : List Call) → List Made
made s [] = []
made s (call ∷ calls) = record { call = call; answer = (step s call).answer } ∷ made (step s call).after calls

abbrev pub Accepted : (answer : Answer) → Type 0
Accepted answer = (number : ℕ) → answer ≢ refused number

-- an accepted promotion named the slot
pub data Promoted (i : BlockSlot) : List Made → Type 0 where
  accepts : (answer : Answer) (log : List Made) (accepted : Accepted answer)
      → Promoted i (record { call = promote_call i; answer = answer } ∷ log)
  later : (made : Made) (log : List Made) (promoted : Promoted i log) → Promoted i (made ∷ log)

abbrev pub slot_returned : (answer : Answer) → Option BlockSlot
slot_returned (refused number) = None
slot_returned done = None
slot_returned (slot i) = Some i
slot_returned (freed blocks) = None
slot_returned (hangs blocks highest) = None
slot_returned (shown rows) = None
slot_returned (request head claims missing) = None
slot_returned none_due = None
slot_returned (due_at time) = None
slot_returned never_due = None

abbrev pub name_given : (call : Call) → Option Name
name_given (admit_call given hash previous arrival) = Some (record { sequence = given; hash = hash })
name_given (promote_call i) = None
name_given (remove_call i) = None
name_given (timer_call time span) = None
name_given (restart_call time) = None

-- the name given by the last accepted admit that returned slot i; `was` where the log has none
unfoldable pub last_admitted : (i : BlockSlot) (was : Option Name) (log : List Made) → Option Name
last_admitted i was [] = was
last_admitted i was (made ∷ log) = last_admitted i (if is_at (slot_returned made.answer) i then name_given made.call else was) log

-- ---- the search for a victim

-- the tables into which a call inserts a head; only `insert_head` looks for a victim, and it stands in three rules: `place_head`,
-- where there is no parent, `fork` and `rebuild_at`
pub data Inserts (s : State) : Call → Tables → Type 0 where
  -- an admitted block without parent: it counts 1
  root : (given : Sequence) (hash previous : Hash) (arrival : Time) (i : BlockSlot)
      → (accepted : (step s (admit_call given hash previous arrival)).answer ≡ slot i)
      → (no_parent : parent_found s given previous ≡ None)
      → Inserts s (admit_call given hash previous arrival) (one_more (inserted s i given hash previous) i)
  -- one whose parent is no head: it counts 1, and the parent one more
  fork : (given : Sequence) (hash previous : Hash) (arrival : Time) (i p : BlockSlot)
      → (accepted : (step s (admit_call given hash previous arrival)).answer ≡ slot i)
      → (found : parent_found s given previous ≡ Some p) (no_head : slot_of_head s.tables.heads.tips p ≡ None)
      → Inserts s (admit_call given hash previous arrival) (one_more (one_more (inserted s i given hash previous) i) p)
  -- a childless block of a restart: the slots below it have their heads
  again : (now : Time) (i : BlockSlot) (accepted : (step s (restart_call now)).answer ≡ done)
      → (leaf : is_leaf (rebuilt_below i (headless s.tables) now s.active_head) i ≡ true)
      → Inserts s (restart_call now) (rebuilt_below i (headless s.tables) now s.active_head)

-- where no head slot is empty there is a victim
abbrev pub VictimIfFull : (t : Tables) (active_head : BlockSlot) → Type 0
VictimIfFull t active_head = first_empty t.heads.tips ≡ None → victim t.blocks.hashes t.blocks.sequences t.heads.tips active_head ≢ None

-- a call that looks for a victim finds one
abbrev pub FindsVictims : (s : State) (call : Call) → Type 0
FindsVictims s call = (t : Tables) → Inserts s call t → VictimIfFull t s.active_head

-- ---- the promises

-- of the blocks, their counts apart
pub record Tree (s : State) : Type 0 where
  pub shape : shaped s.tables ≡ true
  -- a parent is an occupied slot, one lower in sequence
  pub parents : (i : BlockSlot) → Occupied s i → (parent s i ≡ NONE) ⊎ (Occupied s (parent s i) × (suc (sequence s (parent s i)) ≡ sequence s i))
  -- the active blocks are one unbroken line of parents that ends at the record
  pub line : (i : BlockSlot) → Active s i → Occupied s i × OnLine s i
  pub active_head : (s.active_head ≡ NONE) ⊎ Active s s.active_head
  -- no two occupied blocks share sequence and hash
  pub names : (i j : BlockSlot) → Occupied s i → Occupied s j → name s i ≡ name s j → i ≡ j
  -- an empty slot is the fixed record
  pub empty_slots : (i : BlockSlot) → ¬ (Occupied s i) → block_at s.tables.blocks i ≡ empty_block

-- of a state
pub record Sound (s : State) : Type 0 where
  pub tree : Tree s
  -- each occupied block off the active chain counts max(1, its children) and is a head exactly when it has no child
  pub counts : (i : BlockSlot) → Occupied s i → ¬ (Active s i) → count s i ≡ max 1 (children s i)
  pub heads : (i : BlockSlot) → Occupied s i → ¬ (Active s i) → IsHead s i ↔ (children s i ≡ 0)
  -- all tips in use are occupied, childless and different
  pub tips : (k : HeadSlot) → InUse s k → Occupied s (tip s k) × (children s (tip s k) ≡ 0)
  pub different : (j k : HeadSlot) → InUse s j → InUse s k → tip s j ≡ tip s k → j ≡ k
  -- each head is connected exactly when its walk meets an active block, and anchored there or at the walk's last block
  pub anchored : (k : HeadSlot) → InUse s k → Anchored s k
  -- an empty head is the fixed record
  pub empty_heads : (k : HeadSlot) → ¬ (InUse s k) → head_at s.tables.heads k ≡ empty_head

-- of a state and the calls that led to it
pub record Recorded (log : List Made) (s : State) : Type 0 where
  -- bit 0 is set exactly on the slots that accepted promotions named
  pub promoted : (i : BlockSlot) → Active s i ↔ Promoted i log
  -- each occupied slot holds the sequence and hash of the last accepted admit that returned it
  pub admitted : (i : BlockSlot) → Occupied s i → last_admitted i None log ≡ Some (name s i)

-- of a list of calls from s, to which the log has led
pub record Promise (log : List Made) (s : State) (calls : List Call) : Type 0 where
  pub sound : Sound (run s calls)
  pub recorded : Recorded (log ++ made s calls) (run s calls)
  -- a promoted block is never freed and keeps slot, sequence and hash
  pub stays : (more : List Call) (i : BlockSlot) → Promoted i (log ++ made s calls)
      → Occupied (run s (calls ++ more)) i × Active (run s (calls ++ more)) i × (name (run s (calls ++ more)) i ≡ name (run s calls) i)
  -- whichever call is made next finds a victim when it looks for one
  pub victims : (call : Call) → FindsVictims (run s calls) call

-- of a restart from blocks whose counts, and heads, may be anything
pub record Mended (s : State) (now : Time) : Type 0 where
  pub sound : Sound (step s (restart_call now)).after
  pub stays : (i : BlockSlot) → Active s i → Active (step s (restart_call now)).after i × (name (step s (restart_call now)).after i ≡ name s i)
  pub victims : FindsVictims s (restart_call now)

-- ---- how much hangs under a block (02, S-1)

-- what `mark_subtree` lists
abbrev pub marked : (s : State) (i : BlockSlot) → List BlockSlot
marked s i = mark_subtree s.tables.blocks.parents s.tables.blocks.sequences i

-- so many parent steps lead from i to j, each from an occupied block
pub data Up (s : State) : ℕ → BlockSlot → BlockSlot → Type 0 where
  stays : (i : BlockSlot) → Up s 0 i i
  climbs : (steps : ℕ) (i j : BlockSlot) (there : Occupied s i) (up : Up s steps (parent s i) j) → Up s (suc steps) i j

-- the block lies on no ring of parents shorter than n
abbrev pub OnNoShortRing : (s : State) (i : BlockSlot) → Type 0
OnNoShortRing s i = (steps : ℕ) → 0 < steps → steps < blocks_in s.tables → ¬ (Up s steps i i)

-- a listed block has this sequence, and none has a higher one
pub record Highest (s : State) (listed : List BlockSlot) (given : Sequence) : Type 0 where
  pub one : (j : BlockSlot) × Among j listed × (sequence s j ≡ given)
  pub none : (j : BlockSlot) → Among j listed → sequence s j ≤ given

-- what the call answers for a block of any table
pub record Weighed (s : State) (i : BlockSlot) : Type 0 where
  pub number : ℕ
  pub highest : Sequence
  pub answers : (under s i).answer ≡ hangs number highest
  -- the highest sequence of what `mark_subtree` lists
  pub of_marked : Highest s (marked s i) highest
  -- and as many as it lists, where the block lies on no ring shorter than n
  pub as_marked : OnNoShortRing s i → number ≡ length (marked s i)
  -- n · n - n + 1 at most: itself, and n at each of the n - 1 levels below
  pub at_most : number + blocks_in s.tables ≤ blocks_in s.tables * blocks_in s.tables + 1

-- ---- the head screen (02, S-2)

-- the sequence of a head's tip; NONE_REF where the tip is empty or out of range
abbrev pub tip_sequence : (s : State) (k : HeadSlot) → Sequence
tip_sequence s k = sequence s (tip s k)

-- the hash that a head sorts with: its tip's, or zeros where the tip is empty or out of range
pub record SortsWith (s : State) (k : HeadSlot) (hash : Hash) : Type 0 where
  pub of_tip : Occupied s (tip s k) → hash ≡ hash_at s.tables.blocks.hashes (tip s k)
  pub or_zero : ¬ (Occupied s (tip s k)) → hash ≡ replicate hash_length 0

-- a hash is lower by the first byte that differs
pub data Lower : Hash → Hash → Type 0 where
  here : (x y : ℕ) (xs ys : List ℕ) (lower : x < y) → Lower (x ∷ xs) (y ∷ ys)
  behind : (x : ℕ) (xs ys : List ℕ) (lower : Lower xs ys) → Lower (x ∷ xs) (x ∷ ys)

-- by tip sequence, highest first, then by lowest hash, then by lowest head slot
pub data StandsBefore (s : State) (j k : HeadSlot) : Type 0 where
  by_sequence : (higher : tip_sequence s k < tip_sequence s j) → StandsBefore s j k
  by_hash : (same : tip_sequence s j ≡ tip_sequence s k) (a b : Hash) (first : SortsWith s j a) (second : SortsWith s k b) (lower : Lower a b)
      → StandsBefore s j k
  by_slot : (same : tip_sequence s j ≡ tip_sequence s k) (a : Hash) (first : SortsWith s j a) (second : SortsWith s k a) (lower : j < k)
      → StandsBefore s j k

-- neighbours are in order
pub data Ordered (s : State) : List HeadSlot → Type 0 where
  nobody : Ordered s []
  alone : (k : HeadSlot) → Ordered s (k ∷ [])
  follows : (j k : HeadSlot) (ks : List HeadSlot) (before : StandsBefore s j k) (rest : Ordered s (k ∷ ks)) → Ordered s (j ∷ k ∷ ks)

-- how often a head stands in a list
unfoldable pub times : (k : HeadSlot) (list : List HeadSlot) → ℕ
times k [] = 0
times k (j ∷ js) = (if eqb j k then 1 else 0) + times k js

-- a record has what a head keeps, tip, kind and anchor, and the sequence of its tip
pub record RowOf (s : State) (k : HeadSlot) (row : HeadRow) : Type 0 where
  pub tips : row.tip.0 ≡ tip s k
  pub sequences : row.sequence.0 ≡ tip_sequence s k
  pub connected : Connected s k → row.kind.0 ≡ 1
  pub stored : ¬ (Connected s k) → row.kind.0 ≡ 0
  pub anchors : row.anchor.0 ≡ anchor s k

-- a record for each head of a list
pub data RowsOf (s : State) : List HeadSlot → List HeadRow → Type 0 where
  no_rows : RowsOf s [] []
  and_row : (k : HeadSlot) (row : HeadRow) (ks : List HeadSlot) (rows : List HeadRow) (own : RowOf s k row) (rest : RowsOf s ks rows)
      → RowsOf s (k ∷ ks) (row ∷ rows)

-- what the call answers, of a table of a right shape and a list that is long enough
pub record OnScreen (s : State) (room : ℕ) : Type 0 where
  pub heads : List HeadSlot
  pub rows : List HeadRow
  pub answers : (screen s room).answer ≡ shown rows
  pub recorded : RowsOf s heads rows
  -- each head in use stands exactly once, and no other
  pub once : (k : HeadSlot) → InUse s k → times k heads ≡ 1
  pub others : (k : HeadSlot) → ¬ (InUse s k) → times k heads ≡ 0
  pub ordered : Ordered s heads

-- ---- what is proved

-- demand 3: every list of calls from what an accepted fresh left
abbrev pub Demand3 : Type 0
Demand3 = (s : State) → Accepted (fresh s).answer → (calls : List Call) → Promise [] (fresh s).after calls

-- a restart mends every tree, whatever its counts and heads, in which no block has more children than a count can say
abbrev pub RestartMends : Type 0
RestartMends = (s : State) → Tree s → ((i : BlockSlot) → Occupied s i → children s i ≤ max_count) → (now : Time) → Mended s now

-- S-1: after every list of calls from what an accepted fresh left, the number is the length of what `mark_subtree` lists, and the highest
-- sequence is that of the list
abbrev pub UnderReached : Type 0
UnderReached = (s : State) → Accepted (fresh s).answer → (calls : List Call) (i : BlockSlot) → Occupied (run (fresh s).after calls) i
    → (given : Sequence) × ((under (run (fresh s).after calls) i).answer ≡ hangs (length (marked (run (fresh s).after calls) i)) given)
    × Highest (run (fresh s).after calls) (marked (run (fresh s).after calls) i) given

-- and of every table of a right shape, damaged or not
abbrev pub UnderAny : Type 0
UnderAny = (s : State) → shaped s.tables ≡ true → (i : BlockSlot) → Occupied s i → Weighed s i

-- S-2: of every table of a right shape, and every list that has a place for each head slot
abbrev pub ScreenAny : Type 0
ScreenAny = (s : State) → shaped s.tables ≡ true → (room : ℕ) → heads_in s.tables ≤ room → OnScreen s room
