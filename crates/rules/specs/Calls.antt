-- The calls (01, "Replies and refusals"): which refusal applies first, what a call does, and lists of calls.
use Rattle.std.specs.Prelude.{◌≡◌, Bool, not, ◌&&◌, ◌||◌, List, [], ◌∷◌, ℕ, eqb, ltb, leb, length, if◌then◌else◌, Option, None, Some, is_some}
use Rattle.rules.specs.Kinds.{BlockSlot, Sequence, Time, Hash}
use Rattle.rules.specs.Common.{lowest}
use Rattle.rules.specs.Hashes.{hash_length, zero_hash, hash_at, same_hash}
use Rattle.rules.specs.Records.{NONE, Blocks, Tables, slots_of, parent_at, occupied, active, empty_blocks, empty_heads, with_blocks, with_heads, with_requested, blocks_fit, heads_fit, block_of}
use Rattle.rules.specs.BlockTable.{find, next_free, find_parent, in_subtree, mark_subtree, insert_at}
use Rattle.rules.specs.Under.{hanging, highest}
use Rattle.rules.specs.Admission.{admitted, refresh_tails}
use Rattle.rules.specs.Removal.{removed}
use Rattle.rules.specs.Promotion.{promoted}
use Rattle.rules.specs.Rebuild.{restarted}
use Rattle.rules.specs.Timer.{Ask, span_or, recovery, mark_requested, deadline}
use Rattle.rules.specs.Screen.{screen_of}
use Rattle.rules.specs.Answers.{Answer, refused, done, slot, freed, hangs, shown, request, none_due, due_at, never_due}
use Rattle.rules.specs.declared.Block.{Block}

-- the tables, and the record that holds the active head's slot or NONE_REF
pub record State : Type 0 where
  pub tables : Tables
  pub active_head : BlockSlot

abbrev pub state_of : (t : Tables) (active_head : BlockSlot) → State
state_of t active_head = record { tables = t; active_head = active_head }

pub record Stepped : Type 0 where
  pub after : State
  pub answer : Answer

-- the state after a call that keeps the record
abbrev pub keeping : (s : State) (t : Tables) → State
keeping s t = record { tables = t; active_head = s.active_head }

abbrev pub answering : (s : State) (a : Answer) → Stepped
answering s a = record { after = s; answer = a }

-- a refused call leaves all as it stood
abbrev pub refuse : (s : State) (number : ℕ) → Stepped
refuse s number = answering s (refused number)

-- ---- shape

abbrev pub max_blocks : ℕ
max_blocks = 1024

abbrev pub min_heads : ℕ
min_heads = 2

abbrev pub max_heads : ℕ
max_heads = 64

abbrev pub blocks_in : (t : Tables) → ℕ
blocks_in t = length t.blocks.parents

abbrev pub heads_in : (t : Tables) → ℕ
heads_in t = length t.heads.tips

unfoldable pub shaped : (t : Tables) → Bool
shaped t =
    leb 1 (blocks_in t) && leb (blocks_in t) max_blocks && leb min_heads (heads_in t) && leb (heads_in t) max_heads
    && blocks_fit t.blocks (blocks_in t) && heads_fit t.heads (heads_in t)

-- ---- fresh

unfoldable pub fresh_state : (n m : ℕ) → State
fresh_state n m = record { tables = record { blocks = empty_blocks n; heads = empty_heads m }; active_head = NONE }

unfoldable pub fresh : (s : State) → Stepped
fresh s = if not (shaped s.tables) then refuse s 1 else answering (fresh_state (blocks_in s.tables) (heads_in s.tables)) done

-- ---- admit

-- Stored, its count 0
abbrev pub new_block : (sequence : Sequence) (hash : Hash) (parent : BlockSlot) → Block
new_block sequence hash parent = block_of hash parent sequence 0 0

abbrev pub slot_or_none : (found : Option BlockSlot) → BlockSlot
slot_or_none None = NONE
slot_or_none (Some i) = i

-- an occupied slot has this sequence and hash
abbrev pub known : (s : State) (sequence : Sequence) (hash : Hash) → Bool
known s sequence hash = is_some (find s.tables.blocks.hashes s.tables.blocks.sequences sequence hash)

abbrev pub parent_found : (s : State) (sequence : Sequence) (previous : Hash) → Option BlockSlot
parent_found s sequence previous = find_parent s.tables.blocks.hashes s.tables.blocks.sequences sequence previous

-- the block is in slot i, below the parent that was found
abbrev pub inserted : (s : State) (i : BlockSlot) (sequence : Sequence) (hash previous : Hash) → Tables
inserted s i sequence hash previous =
    with_blocks s.tables (insert_at s.tables.blocks i (new_block sequence hash (slot_or_none (parent_found s sequence previous))))

unfoldable pub admit_at : (s : State) (i : BlockSlot) (sequence : Sequence) (hash previous : Hash) (arrival : Time) → Tables
admit_at s i sequence hash previous arrival =
    refresh_tails (admitted (inserted s i sequence hash previous) i (parent_found s sequence previous) previous arrival s.active_head)

-- slot i is taken, and returned
abbrev pub takes_slot : (s : State) (i : BlockSlot) (sequence : Sequence) (hash previous : Hash) (arrival : Time) → Stepped
takes_slot s i sequence hash previous arrival = answering (keeping s (admit_at s i sequence hash previous arrival)) (slot i)

unfoldable pub admit : (s : State) (sequence : Sequence) (hash previous : Hash) (arrival : Time) → Stepped
admit s sequence hash previous arrival =
    if not (shaped s.tables) then refuse s 1
    else if not (eqb (length hash) hash_length && eqb (length previous) hash_length) then refuse s 2
    else if eqb sequence NONE then refuse s 4
    else if same_hash hash zero_hash then refuse s 5
    else if known s sequence hash then refuse s 6
    else elim (next_free s.tables.blocks.sequences) [ None ↦ refuse s 7 | Some i ↦ takes_slot s i sequence hash previous arrival ]

-- ---- promote

-- a first block, or a child of the active head
unfoldable pub is_next : (parents : List ℕ) (active_head i : BlockSlot) → Bool
is_next parents active_head i = eqb active_head NONE || eqb (parent_at parents i) active_head

-- the record names the block
abbrev pub promoted_to : (s : State) (i : BlockSlot) → State
promoted_to s i = record { tables = promoted s.tables i; active_head = i }

unfoldable pub promote : (s : State) (i : BlockSlot) → Stepped
promote s i =
    if not (shaped s.tables) then refuse s 1
    else if not (occupied s.tables.blocks.sequences i) then refuse s 3
    else if not (is_next s.tables.blocks.parents s.active_head i) then refuse s 8
    else answering (promoted_to s i) done

-- ---- remove

unfoldable pub holds_active : (b : Blocks) (root : BlockSlot) → Bool
holds_active b root =
    is_some (lowest (λ i. in_subtree b.parents b.sequences root i && active b.flags i) (slots_of b.sequences))

unfoldable pub remove : (s : State) (root : BlockSlot) → Stepped
remove s root =
    let b = s.tables.blocks in
    if not (shaped s.tables) then refuse s 1
    else if not (occupied b.sequences root) then refuse s 3
    else if holds_active b root then refuse s 9
    else answering (keeping s (removed s.tables root)) (freed (length (mark_subtree b.parents b.sequences root)))

-- ---- under

-- the number of blocks that hang under a slot, a block met at several levels counted at each, and the highest sequence among them
-- (02, S-1); nothing is written
unfoldable pub under : (s : State) (root : BlockSlot) → Stepped
under s root =
    let b = s.tables.blocks in
    let listed = hanging b.parents b.sequences root in
    if not (shaped s.tables) then refuse s 1
    else if not (occupied b.sequences root) then refuse s 3
    else answering s (hangs (length listed) (highest b.sequences listed))

-- ---- screen

-- the records of the heads in use, for a list of so many (02, S-2): m at least, however many heads are in use; the tables stay
unfoldable pub screen : (s : State) (room : ℕ) → Stepped
screen s room =
    let b = s.tables.blocks in
    let h = s.tables.heads in
    if not (shaped s.tables) then refuse s 1
    else if ltb room (heads_in s.tables) then refuse s 10
    else answering s (shown (screen_of b.hashes b.sequences h.tips h.tails h.connected))

-- ---- timer and deadline

-- the chosen head's request time becomes now
unfoldable pub asked : (s : State) (now : Time) (ask : Option Ask) → Stepped
asked s now None = answering s none_due
asked s now (Some ask) =
    answering
    (keeping s (with_heads s.tables (with_requested s.tables.heads (mark_requested s.tables.heads.requested ask.head now))))
    (request ask.head ask.claims (hash_at s.tables.heads.missing ask.head))

unfoldable pub timer : (s : State) (now : Time) (span : Option Time) → Stepped
timer s now span =
    let b = s.tables.blocks in
    let h = s.tables.heads in
    if not (shaped s.tables) then refuse s 1
    else asked s now (recovery b.hashes b.sequences h.tips h.tails h.requested h.connected now (span_or span))

unfoldable pub earliest_deadline : (s : State) (span : Option Time) → Stepped
earliest_deadline s span =
    let h = s.tables.heads in
    if not (shaped s.tables) then refuse s 1
    else elim (deadline h.tips h.requested h.connected (span_or span)) [ None ↦ answering s never_due | Some time ↦ answering s (due_at time) ]

-- ---- restart

unfoldable pub restart : (s : State) (now : Time) → Stepped
restart s now = if not (shaped s.tables) then refuse s 1 else answering (keeping s (restarted s.tables now s.active_head)) done

-- ---- what a contract says of a call

-- its answer, and the tables that it leaves
pub record Does (said : Answer) (left : Tables) (rule : Stepped) : Type 0 where
  pub answers : said ≡ rule.answer
  pub leaves : left ≡ rule.after.tables

-- and the record, of a call that may set it
pub record Sets (said : Answer) (held : BlockSlot) (left : Tables) (rule : Stepped) : Type 0 where
  pub answers : said ≡ rule.answer
  pub records : held ≡ rule.after.active_head
  pub leaves : left ≡ rule.after.tables

-- ---- lists of calls; fresh is not among them, nor what leaves the tables: under, screen and the deadline

pub data Call : Type 0 where
  admit_call : (sequence : Sequence) (hash previous : Hash) (arrival : Time) → Call
  promote_call : (slot : BlockSlot) → Call
  remove_call : (slot : BlockSlot) → Call
  timer_call : (now : Time) (span : Option Time) → Call
  restart_call : (now : Time) → Call

unfoldable pub step : (s : State) (call : Call) → Stepped
step s (admit_call sequence hash previous arrival) = admit s sequence hash previous arrival
step s (promote_call i) = promote s i
step s (remove_call i) = remove s i
step s (timer_call now span) = timer s now span
step s (restart_call now) = restart s now

-- each call gets what the one before left
unfoldable pub run : (s : State) (calls : List Call) → State
run s [] = s
run s (call ∷ calls) = run (step s call).after calls
