-- Answers (01, "Replies and refusals"): the paper's number and values for each case of each answer.
use Rattle.std.specs.Prelude.{List, ℕ, Option, Some, None, option_map, Result, Ok, Err}
use Rattle.rules.specs.Kinds.{BlockSlot, HeadSlot, Sequence, Time, Hash}
use Rattle.rules.specs.Records.{status_number}
use Rattle.rules.specs.BlockTable.{Insertion, into_slot, reserved, full}
use Rattle.rules.specs.Anchor.{Anchor, connection, tail}
use Rattle.rules.specs.Caches.{HeadInUse}
use Rattle.rules.specs.Timer.{Ask}
use Rattle.rules.specs.declared.BlockSlot as block_slot
use Rattle.rules.specs.declared.HeadSlot as head_slot
use Rattle.rules.specs.declared.BlockStatus.{BlockStatus}
use Rattle.rules.specs.declared.UsedHead.{UsedHead}
use Rattle.rules.specs.declared.InsertError.{InsertError}
use Rattle.rules.specs.declared.InsertError.TheVariants as insert_error
use Rattle.rules.specs.declared.Located.{Located}
use Rattle.rules.specs.declared.Located.TheVariants as located
use Rattle.rules.specs.declared.Recovery.{Recovery}
use Rattle.rules.specs.declared.Refusal.{Refusal}
use Rattle.rules.specs.declared.Refusal.TheVariants.{Shape, HashLength, NoBlock, ReservedSequence, ZeroHash, Known, Full, NotNext, HoldsActive, ShortList}
use Rattle.rules.specs.declared.Hanging.{Hanging}
use Rattle.rules.specs.declared.HeadRow.{HeadRow}
use Rattle.rules.specs.declared.Request.{Request}

-- ---- below the calls

abbrev pub slot_found : (answer : Option block_slot.BlockSlot) → Option BlockSlot
slot_found answer = option_map (λ slot. slot.0) answer

abbrev pub head_found : (answer : Option head_slot.HeadSlot) → Option HeadSlot
head_found answer = option_map (λ head. head.0) answer

abbrev pub head_in_use : (answer : Option UsedHead) → Option HeadInUse
head_in_use answer = option_map (λ used. record { slot = used.head.0; tip = used.tip.0; anchor = used.anchor.0 }) answer

abbrev pub insertion_made : (answer : Result block_slot.BlockSlot InsertError) → Insertion
insertion_made (Ok slot) = into_slot slot.0
insertion_made (Err insert_error.ReservedSequence) = reserved
insertion_made (Err insert_error.Full) = full

abbrev pub status_got : (answer : Option BlockStatus) → Option ℕ
status_got answer = option_map status_number answer

abbrev pub anchor_located : (answer : Located) → Anchor
anchor_located (located.Connection slot) = connection slot.0
anchor_located (located.Tail slot) = tail slot.0

abbrev pub ask_chosen : (answer : Option Recovery) → Option Ask
ask_chosen answer = option_map (λ recovery. record { head = recovery.head.0; claims = recovery.claimed.0 }) answer

-- ---- of the calls

-- the refusals are numbered from 1 to this
abbrev pub last_refusal : ℕ
last_refusal = 10

abbrev pub refusal_number : (why : Refusal) → ℕ
refusal_number Shape = 1
refusal_number HashLength = 2
refusal_number NoBlock = 3
refusal_number ReservedSequence = 4
refusal_number ZeroHash = 5
refusal_number Known = 6
refusal_number Full = 7
refusal_number NotNext = 8
refusal_number HoldsActive = 9
refusal_number ShortList = 10

pub data Answer : Type 0 where
  refused : (number : ℕ) → Answer
  done : Answer
  slot : (i : BlockSlot) → Answer
  freed : (blocks : ℕ) → Answer
  hangs : (blocks : ℕ) (highest : Sequence) → Answer
  shown : (rows : List HeadRow) → Answer
  request : (head : HeadSlot) (claims : Sequence) (missing : Hash) → Answer
  none_due : Answer
  due_at : (time : Time) → Answer
  never_due : Answer

-- a refused call says its refusal's number, another what it has done
abbrev pub call_said : {Given : Type 0} (does : Given → Answer) (answer : Result Given Refusal) → Answer
call_said does (Ok given) = does given
call_said does (Err why) = refused (refusal_number why)

-- of fresh, promote and restart
abbrev pub outcome_said : {Given : Type 0} (answer : Result Given Refusal) → Answer
outcome_said answer = call_said (λ _. done) answer

-- what the record holds after fresh or promote: the slot that is given for it, or what it held
abbrev pub record_after : (answer : Result block_slot.BlockSlot Refusal) (active_head : BlockSlot) → BlockSlot
record_after (Ok new) active_head = new.0
record_after (Err why) active_head = active_head

abbrev pub admitted_said : (answer : Result block_slot.BlockSlot Refusal) → Answer
admitted_said answer = call_said (λ new. slot new.0) answer

abbrev pub removed_said : (answer : Result ℕ Refusal) → Answer
removed_said answer = call_said freed answer

abbrev pub hanging_said : (answer : Result Hanging Refusal) → Answer
hanging_said answer = call_said (λ hanging. hangs hanging.blocks hanging.highest.0) answer

-- the records stand beside the answer, as many as its number says
abbrev pub screened_said : (answer : Result ℕ Refusal) (rows : List HeadRow) → Answer
screened_said answer rows = call_said (λ _. shown rows) answer

abbrev pub request_said : (wanted : Option Request) → Answer
request_said (Some wanted) = request wanted.head.0 wanted.claimed.0 wanted.missing
request_said None = none_due

abbrev pub timer_said : (answer : Result (Option Request) Refusal) → Answer
timer_said answer = call_said request_said answer

abbrev pub due_said : (time : Option Time) → Answer
due_said (Some time) = due_at time
due_said None = never_due

abbrev pub deadline_said : (answer : Result (Option Time) Refusal) → Answer
deadline_said answer = call_said due_said answer
