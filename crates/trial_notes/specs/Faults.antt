-- Why a line cannot be read: the first fault that is met, of the line as a whole, then of its letter, then field after field.
use Rattle.std.specs.Prelude.{Bool, ◌&&◌, List, [], ◌∷◌, ℕ, ◌+◌, ◌-◌, eqb, ltb, leb, length, get_or, if◌then◌else◌, Option, None, Some, is_some}
use Rattle.std.specs.List.{list_any}
use Rattle.std.specs.Option.{option_or}
use Rattle.trial_lines.specs.Reading.{field_length, first, rest, letter, all_digits, number, word_most, time_most, hash_byte}
use Rattle.trial_notes.specs.declared.Reason.{Reason}
use Rattle.trial_notes.specs.declared.Reason.TheVariants.{Empty, CarriageReturn, SpaceFirst, SpaceLast, SpaceTwice, NoLetter, LowerLetter, FieldMissing, FieldExtra, NoNumber, WordTooLarge, TimeTooLarge, NoHash, UpperHash}

-- what is read has no fault
abbrev pub found : (read : Option ℕ) (why : Reason) → Option Reason
found None why = Some why
found (Some n) why = None

-- ---- a field by itself

-- digits that are no number are too large
unfoldable pub number_fault : (most : ℕ) (larger : Reason) (field : List ℕ) → Option Reason
number_fault most larger field =
    if eqb (length field) 0 then Some FieldMissing
    else if all_digits field then found (number most field) larger
    else Some NoNumber

abbrev pub word_fault : (field : List ℕ) → Option Reason
word_fault = number_fault word_most WordTooLarge

abbrev pub time_fault : (field : List ℕ) → Option Reason
time_fault = number_fault time_most TimeTooLarge

-- A to F are the bytes 65 to 70, a to f 97 to 102
abbrev pub lowered : (byte : ℕ) → ℕ
lowered b = if leb 65 b && leb b 70 then b + 32 else b

unfoldable pub hash_reason : (field : List ℕ) → Reason
hash_reason field =
    if eqb (length field) 2 && is_some (hash_byte (lowered (get_or field 0 0) ∷ lowered (get_or field 1 0) ∷ [])) then UpperHash else NoHash

unfoldable pub hash_fault : (field : List ℕ) → Option Reason
hash_fault field = if eqb (length field) 0 then Some FieldMissing else found (hash_byte field) (hash_reason field)

-- ---- a field at the start of what is left of a line: with others after it, and the last

unfoldable pub inner : (fault : List ℕ → Option Reason) (left : List ℕ) → Option Reason
inner fault left = if eqb (get_or left 0 0) 32 then Some SpaceTwice else fault (first left)

unfoldable pub last : (fault : List ℕ → Option Reason) (left : List ℕ) → Option Reason
last fault left =
    if eqb (get_or left 0 0) 32 then Some SpaceTwice
    else if ltb (field_length left) (length left) then Some FieldExtra
    else fault left

-- ---- what follows the letter

unfoldable pub fresh_fault : (fields : List ℕ) → Option Reason
fresh_fault fields = option_or (inner word_fault fields) (last word_fault (rest fields))

unfoldable pub admit_fault : (fields : List ℕ) → Option Reason
admit_fault fields =
    option_or (inner word_fault fields)
    (option_or (inner hash_fault (rest fields))
    (option_or (inner hash_fault (rest (rest fields)))
    (last time_fault (rest (rest (rest fields))))))

unfoldable pub timer_fault : (fields : List ℕ) → Option Reason
timer_fault fields = option_or (inner time_fault fields) (last time_fault (rest fields))

-- V has no field: the line is its letter
unfoldable pub screen_fault : (line : List ℕ) → Option Reason
screen_fault line =
    if eqb (length line) 1 then None
    else if eqb (get_or line 2 0) 32 then Some SpaceTwice
    else Some FieldExtra

-- ---- the letter: N is 78, A 65, P 80, D 68, U 85, V 86, T 84, R 82, in lower case 32 more

unfoldable pub is_letter : (byte : ℕ) → Bool
is_letter b = list_any (λ letter. eqb letter b) (78 ∷ 65 ∷ 80 ∷ 68 ∷ 85 ∷ 86 ∷ 84 ∷ 82 ∷ [])

unfoldable pub letter_reason : (byte : ℕ) → Reason
letter_reason b = if is_letter (b - 32) then LowerLetter else NoLetter

unfoldable pub fields_fault : (line : List ℕ) → Option Reason
fields_fault line =
    if eqb (letter line) 78 then fresh_fault (rest line)
    else if eqb (letter line) 65 then admit_fault (rest line)
    else if eqb (letter line) 80 then last word_fault (rest line)
    else if eqb (letter line) 68 then last word_fault (rest line)
    else if eqb (letter line) 85 then last word_fault (rest line)
    else if eqb (letter line) 86 then screen_fault line
    else if eqb (letter line) 84 then timer_fault (rest line)
    else if eqb (letter line) 82 then last time_fault (rest line)
    else Some (letter_reason (letter line))

-- ---- the line: a carriage return is 13, a space 32

abbrev pub last_byte : (line : List ℕ) → ℕ
last_byte line = get_or line (length line - 1) 0

unfoldable pub fault_of : (line : List ℕ) → Option Reason
fault_of line =
    if eqb (length line) 0 then Some Empty
    else if eqb (last_byte line) 13 then Some CarriageReturn
    else if eqb (get_or line 0 0) 32 then Some SpaceFirst
    else if eqb (last_byte line) 32 then Some SpaceLast
    else fields_fault line
