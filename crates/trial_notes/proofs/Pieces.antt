-- How long a note is.
use Rattle.std.specs.Prelude.{Option, Some, None}
use Prim.Native.Nat.{ℕ, ◌≤◌}
use native.Mathlib.Omega.{arith}
use lib.ListN.{length, length-append}
use Rattle.trial_lines.specs.Text.{bytes_from, bytes}
use Rattle.trial_lines.specs.Writing.{digits}
use Rattle.trial_lines.proofs.Short.{digits-short}
use Rattle.trial_notes.specs.Texts.{reason_text, note_text}
use Rattle.trial_notes.specs.declared.Reason.{Reason}
use Rattle.trial_notes.specs.declared.Reason.TheVariants.{TooLong, Empty, CarriageReturn, SpaceFirst, SpaceLast, SpaceTwice, NoLetter, LowerLetter, FieldMissing, FieldExtra, NoNumber, WordTooLarge, TimeTooLarge, NoHash, UpperHash}

reason-short : (why : Reason) → length (reason_text why) ≤ 48
unfolding bytes_from bytes reason_text
reason-short TooLong = omega arith
reason-short Empty = omega arith
reason-short CarriageReturn = omega arith
reason-short SpaceFirst = omega arith
reason-short SpaceLast = omega arith
reason-short SpaceTwice = omega arith
reason-short NoLetter = omega arith
reason-short LowerLetter = omega arith
reason-short FieldMissing = omega arith
reason-short FieldExtra = omega arith
reason-short NoNumber = omega arith
reason-short WordTooLarge = omega arith
reason-short TimeTooLarge = omega arith
reason-short NoHash = omega arith
reason-short UpperHash = omega arith

pub note-short : (number : ℕ) (fault : Option Reason) → length (note_text number fault) ≤ 96
unfolding bytes_from bytes digits note_text
note-short number None = omega arith
note-short number (Some why) = simp length-append (omega (arith, digits-short 20 number, reason-short why))
