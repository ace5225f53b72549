-- The text of a note: the line's number and why it cannot be read.
use Rattle.std.specs.Prelude.{List, [], ◌∷◌, ◌++◌, ℕ, Option, Some, None}
use Rattle.trial_lines.specs.Text.{bytes}
use Rattle.trial_lines.specs.Writing.{digits}
use Rattle.trial_notes.specs.declared.Reason.{Reason}
use Rattle.trial_notes.specs.declared.Reason.TheVariants.{TooLong, Empty, CarriageReturn, SpaceFirst, SpaceLast, SpaceTwice, NoLetter, LowerLetter, FieldMissing, FieldExtra, NoNumber, WordTooLarge, TimeTooLarge, NoHash, UpperHash}

unfoldable pub reason_text : (why : Reason) → List ℕ
reason_text TooLong = bytes "more than 128 bytes"
reason_text Empty = bytes "empty"
reason_text CarriageReturn = bytes "a carriage return at its end"
reason_text SpaceFirst = bytes "a space before its letter"
reason_text SpaceLast = bytes "a space at its end"
reason_text SpaceTwice = bytes "two spaces in a row"
reason_text NoLetter = bytes "the first field is none of N A P D U V T R"
reason_text LowerLetter = bytes "its letter is in lower case"
reason_text FieldMissing = bytes "a field is missing"
reason_text FieldExtra = bytes "a field too many"
reason_text NoNumber = bytes "a field is no decimal number"
reason_text WordTooLarge = bytes "a number is above 4294967295"
reason_text TimeTooLarge = bytes "a time is above 18446744073709551615"
reason_text NoHash = bytes "a hash is not two hexadecimal digits"
reason_text UpperHash = bytes "a hash is in upper case"

-- the end of a line is the byte 10
unfoldable pub note_text : (number : ℕ) (fault : Option Reason) → List ℕ
note_text number None = []
note_text number (Some why) = bytes "line " ++ (digits number ++ (bytes ": " ++ (reason_text why ++ 10 ∷ [])))
