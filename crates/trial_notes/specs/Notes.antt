-- What is noted of a trial's lines, byte after byte: a note for each that cannot be read.
use Rattle.std.specs.Prelude.{List, [], ◌++◌, ℕ, ◌+◌, min, eqb, if◌then◌else◌, Option, Some}
use Rattle.trial_lines.specs.Begun.{Begun, so_far, too_long, longer, has_begun}
use Rattle.trial_lines.specs.Fed.{Fed, fed, fed_in_chunks}
use Rattle.trial_notes.specs.Faults.{fault_of}
use Rattle.trial_notes.specs.Texts.{note_text}
use Rattle.trial_notes.specs.declared.Noting.{Noting}
use Rattle.trial_notes.specs.declared.Reason.{Reason}
use Rattle.trial_notes.specs.declared.Reason.TheVariants.{TooLong}

unfoldable pub begun_fault : (begun : Begun) → Option Reason
begun_fault (so_far bytes) = fault_of bytes
begun_fault too_long = Some TooLong

-- lines are counted in 64 bits, up to the largest number
abbrev pub next_number : (number : ℕ) → ℕ
next_number number = min (number + 1) 18446744073709551615

unfoldable pub line_noted : (z : Noting) → List ℕ
line_noted z = note_text z.number (begun_fault z.begun)

-- the end of a line is the byte 10
unfoldable pub noted_byte : (z : Noting) (byte : ℕ) → Fed Noting
noted_byte z byte =
    if eqb byte 10 then record { after = record { number = next_number z.number; begun = so_far [] }; said = line_noted z }
    else record { after = record { number = z.number; begun = longer z.begun byte }; said = [] }

abbrev pub noted : (z : Noting) (bytes : List ℕ) → Fed Noting
noted z bytes = fed noted_byte z bytes

-- the last line may lack its end
unfoldable pub last_noted : (z : Noting) → List ℕ
last_noted z = if has_begun z.begun then line_noted z else []

-- ---- the whole

-- before anything came: the first line
unfoldable pub start : Noting
start = record { number = 1; begun = so_far [] }

unfoldable pub notes : (input : List ℕ) → List ℕ
notes input = let f = noted start input in f.said ++ last_noted f.after

-- the same as a program reads it: chunk after chunk
abbrev pub in_chunks : (z : Noting) (chunks : List (List ℕ)) → List ℕ
in_chunks z chunks = fed_in_chunks noted_byte last_noted z chunks
