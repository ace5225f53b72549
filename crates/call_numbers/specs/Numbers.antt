-- The numbers and lists that a call's answer is passed on as.
use Rattle.std.specs.Prelude.{◌≡◌, List, ℕ, ◌*◌, eqb, length, set, if◌then◌else◌, Option, None, Some, Result, Ok, Err}
use Rattle.std.proofs.lemmas.List.Edits.{sets}
use denote.Triple.Both.{Both}
use denote.MutBor.{MutBor}
use Rattle.rules.specs.Kinds.{BlockSlot, Time}
use Rattle.rules.specs.Records.{NONE, Tables, Lent}
use Rattle.rules.specs.Calls.{Stepped}
use Rattle.rules.specs.Hashes.{put_hash}
use Rattle.rules.specs.declared.HeadRow.{HeadRow}
use Rattle.rules.specs.declared.Refusal.{Refusal}
use Rattle.rules.specs.Answers.{Answer, refused, done, slot, freed, hangs, shown, request, none_due, due_at, never_due, refusal_number}

-- a refusal times 2^32, or the slot, the number of blocks freed or hanging, that of records shown, the head asked for (NONE_REF is none
-- due), and 1 where there is a deadline
abbrev pub answer_number : (answer : Answer) → ℕ
answer_number (refused number) = number * 4294967296
answer_number done = 0
answer_number (slot i) = i
answer_number (freed blocks) = blocks
answer_number (hangs blocks highest) = blocks
answer_number (shown rows) = length rows
answer_number (request head claims missing) = head
answer_number none_due = NONE
answer_number (due_at time) = 1
answer_number never_due = 0

-- a request's claimed sequence is written to the first place of a list
abbrev pub claimed_to : (answer : Answer) (words : List ℕ) → List ℕ
claimed_to (request head claims missing) words = set words 0 claims
claimed_to (refused number) words = words
claimed_to done words = words
claimed_to (slot i) words = words
claimed_to (freed blocks) words = words
claimed_to (hangs blocks highest) words = words
claimed_to (shown rows) words = words
claimed_to none_due words = words
claimed_to (due_at time) words = words
claimed_to never_due words = words

-- and its missing hash to the first 32 bytes of another
abbrev pub wanted_to : (answer : Answer) (bytes : List ℕ) → List ℕ
wanted_to (request head claims missing) bytes = put_hash bytes 0 missing
wanted_to (refused number) bytes = bytes
wanted_to done bytes = bytes
wanted_to (slot i) bytes = bytes
wanted_to (freed blocks) bytes = bytes
wanted_to (hangs blocks highest) bytes = bytes
wanted_to (shown rows) bytes = bytes
wanted_to none_due bytes = bytes
wanted_to (due_at time) bytes = bytes
wanted_to never_due bytes = bytes

-- a deadline is written to the first place of a list
abbrev pub time_to : (answer : Answer) (times : List ℕ) → List ℕ
time_to (due_at time) times = set times 0 time
time_to (refused number) times = times
time_to done times = times
time_to (slot i) times = times
time_to (freed blocks) times = times
time_to (hangs blocks highest) times = times
time_to (shown rows) times = times
time_to (request head claims missing) times = times
time_to none_due times = times
time_to never_due times = times

-- the highest sequence of what hangs under a block is written to the first place of a list
abbrev pub highest_to : (answer : Answer) (words : List ℕ) → List ℕ
highest_to (hangs blocks highest) words = set words 0 highest
highest_to (refused number) words = words
highest_to done words = words
highest_to (slot i) words = words
highest_to (freed blocks) words = words
highest_to (shown rows) words = words
highest_to (request head claims missing) words = words
highest_to none_due words = words
highest_to (due_at time) words = words
highest_to never_due words = words

-- what a call gives by its number, or its refusal: of screen the number of records, which are passed on beside it
abbrev pub result_number : {Given : Type 0} (number : Given → ℕ) (answer : Result Given Refusal) → ℕ
result_number number (Ok given) = number given
result_number number (Err why) = refusal_number why * 4294967296

-- the records of a screen are written to the first places of a list; its other places keep what they hold
abbrev pub rows_to : (answer : Answer) (list : List HeadRow) → List HeadRow
rows_to (shown rows) list = sets list 0 rows
rows_to (refused number) list = list
rows_to done list = list
rows_to (slot i) list = list
rows_to (freed blocks) list = list
rows_to (hangs blocks highest) list = list
rows_to (request head claims missing) list = list
rows_to none_due list = list
rows_to (due_at time) list = list
rows_to never_due list = list

-- whether a retry span is given, and the span
unfoldable pub span_from : (given : ℕ) (span : Time) → Option Time
span_from given span = if eqb given 0 then None else Some span

-- ---- what a contract says of a call whose answer is passed on as a number

pub record Gives (number : ℕ) (left : Tables) (rule : Stepped) : Type 0 where
  pub answers : number ≡ answer_number rule.answer
  pub leaves : left ≡ rule.after.tables

-- and the record, of a call that may set it
pub record GivesAndSets (number : ℕ) (held : BlockSlot) (left : Tables) (rule : Stepped) : Type 0 where
  pub answers : number ≡ answer_number rule.answer
  pub records : held ≡ rule.after.active_head
  pub leaves : left ≡ rule.after.tables

-- and what a request asks for, in two lent lists
pub record Asks (number : ℕ) (claimed wanted : Lent) (left : Tables) (rule : Stepped) : Type 0 where
  pub answers : number ≡ answer_number rule.answer
  pub claims : claimed.exit.now ≡ claimed_to rule.answer claimed.entry.now
  pub wants : wanted.exit.now ≡ wanted_to rule.answer wanted.entry.now
  pub leaves : left ≡ rule.after.tables

-- and the time of a deadline, in a lent list
pub record Waits (number : ℕ) (time : Lent) (left : Tables) (rule : Stepped) : Type 0 where
  pub answers : number ≡ answer_number rule.answer
  pub waits : time.exit.now ≡ time_to rule.answer time.entry.now
  pub leaves : left ≡ rule.after.tables

-- and the highest sequence of what hangs, in a lent list
pub record Hangs (number : ℕ) (highest : Lent) (left : Tables) (rule : Stepped) : Type 0 where
  pub answers : number ≡ answer_number rule.answer
  pub tops : highest.exit.now ≡ highest_to rule.answer highest.entry.now
  pub leaves : left ≡ rule.after.tables

-- and the records of a screen, in a lent list of them
pub record Shows (number : ℕ) (list : Both (MutBor (List HeadRow)) (MutBor (List HeadRow))) (left : Tables) (rule : Stepped) : Type 0 where
  pub answers : number ≡ answer_number rule.answer
  pub shows : list.exit.now ≡ rows_to rule.answer list.entry.now
  pub leaves : left ≡ rule.after.tables
