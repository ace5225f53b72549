-- An input with each fault but a line too long, from the bytes that are read to the notes.
use mathlib.Core.Path.{◌≡◌, refl}
use Rattle.trial_lines.specs.Begun.{longer, has_begun}
use Rattle.trial_lines.specs.Fed.{fed}
use Rattle.trial_lines.specs.Reading.{field_length, all_digits, value_from, number, hash_byte}
use Rattle.trial_lines.specs.Text.{bytes_from, bytes}
use Rattle.trial_lines.specs.Writing.{digits_in, digits}
use Rattle.trial_notes.specs.Faults.{number_fault, hash_reason, hash_fault, inner, last, fresh_fault, admit_fault, timer_fault, is_letter, letter_reason, fields_fault, fault_of}
use Rattle.trial_notes.specs.Texts.{reason_text, note_text}
use Rattle.trial_notes.specs.Notes.{begun_fault, line_noted, noted_byte, last_noted, start, notes}

as-noted : notes (bytes "N 4 2\n\nP 1\r\n P 1\nP 1 \nA 5  0a 09 1\nX 1\np 1\nN 4\nP 1 2\nD -1\nP 4294967296\nT 1 18446744073709551616\nA 5 a 09 1\nA 5 0A 09 1\nP 1\nR")
    ≡ bytes "line 2: empty\nline 3: a carriage return at its end\nline 4: a space before its letter\nline 5: a space at its end\nline 6: two spaces in a row\nline 7: the first field is none of N A P D U V T R\nline 8: its letter is in lower case\nline 9: a field is missing\nline 10: a field too many\nline 11: a field is no decimal number\nline 12: a number is above 4294967295\nline 13: a time is above 18446744073709551615\nline 14: a hash is not two hexadecimal digits\nline 15: a hash is in upper case\nline 17: a field is missing\n"
unfolding bytes_from bytes longer has_begun field_length all_digits value_from number hash_byte digits_in digits number_fault hash_reason hash_fault inner last fresh_fault admit_fault timer_fault is_letter letter_reason fields_fault fault_of reason_text note_text begun_fault line_noted noted_byte fed last_noted start notes
as-noted = refl
