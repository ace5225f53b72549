-- The numbers that stand for answers.
use Rattle.std.specs.Prelude.{List, ℕ, ◌+◌, ◌*◌, eqb, set, if◌then◌else◌, Option, None, Some}
use Rattle.rules.specs.Kinds.{BlockSlot, Time}
use Rattle.rules.specs.Records.{NONE}
use Rattle.rules.specs.BlockTable.{Insertion, into_slot, reserved, full}
use Rattle.rules.specs.Caches.{HeadInUse}
use Rattle.rules.specs.Timer.{Ask}

-- the head slot times 2^32 and the claimed sequence; with NONE_REF for both, the highest 64-bit number, it is none
abbrev pub ask_number : (ask : Option Ask) → ℕ
ask_number None = NONE * 4294967296 + NONE
ask_number (Some ask) = ask.head * 4294967296 + ask.claims

-- a time is written to the first place of a list; nothing is written where there is none
abbrev pub is_given : (time : Option Time) → ℕ
is_given None = 0
is_given (Some time) = 1

abbrev pub time_got : (time : Option Time) (times : List ℕ) → List ℕ
time_got None times = times
time_got (Some time) times = set times 0 time

-- the slot that a number stands for
unfoldable pub slot_from : (slot : BlockSlot) → Option BlockSlot
slot_from slot = if eqb slot NONE then None else Some slot

-- a slot, NONE_REF among them; 2^32 is none
abbrev pub slot_number : (slot : Option BlockSlot) → ℕ
slot_number None = 4294967296
slot_number (Some slot) = slot

-- a slot; 2^32 is the reserved sequence, and one more a full table
abbrev pub insertion_number : (insertion : Insertion) → ℕ
insertion_number (into_slot slot) = slot
insertion_number reserved = 4294967296
insertion_number full = 4294967297

-- slot, tip and anchor of a head in use are written to the first three places of a list
abbrev pub is_head : (head : Option HeadInUse) → ℕ
is_head None = 0
is_head (Some head) = 1

abbrev pub head_got : (head : Option HeadInUse) (out : List ℕ) → List ℕ
head_got None out = out
head_got (Some head) out = set (set (set out 0 head.slot) 1 head.tip) 2 head.anchor
