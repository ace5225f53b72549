-- What a line of a trial asks for (01, "One trial whole"): a letter and its fields, each after one space.
use Rattle.std.specs.Prelude.{Bool, ◌&&◌, List, [], ◌∷◌, ℕ, suc, ◌+◌, ◌*◌, ◌-◌, eqb, ltb, leb, length, get_or, take, drop, if◌then◌else◌, Option, None, Some, option_map, option_and_then}
use Rattle.std.specs.List.{list_all, position_or_len}
use Rattle.rules.specs.Records.{NONE}
use Rattle.rules.specs.Timer.{max_time}
use Rattle.rules.specs.declared.BlockSlot.{BlockSlot}
use Rattle.trial_lines.specs.declared.Line.{Line}
use Rattle.trial_lines.specs.declared.Line.TheVariants.{Fresh, Admit, Promote, Remove, Under, Screen, Timer, Restart}

-- as `?`: one thing that cannot be read leaves the whole unread
infixl 10 ◌>>=◌
abbrev pub ◌>>=◌ : {A B : Type 0} → Option A → (A → Option B) → Option B
o >>= f = option_and_then f o

-- ---- fields

-- the bytes before the first space
unfoldable pub field_length : (bytes : List ℕ) → ℕ
field_length bytes = position_or_len (λ b. eqb b 32) bytes

abbrev pub first : (line : List ℕ) → List ℕ
first line = take (field_length line) line

-- what follows the first space; nothing where there is none
abbrev pub rest : (line : List ℕ) → List ℕ
rest line = drop (suc (field_length line)) line

-- the first field if it is one byte
abbrev pub letter : (line : List ℕ) → ℕ
letter line = if eqb (field_length line) 1 then get_or line 0 0 else 0

-- ---- numbers

-- the digits 0 to 9 are the bytes 48 to 57
abbrev pub is_digit : (byte : ℕ) → Bool
is_digit b = leb 48 b && leb b 57

unfoldable pub all_digits : (bytes : List ℕ) → Bool
all_digits bytes = list_all is_digit bytes

-- the value of digits that follow those of n
unfoldable pub value_from : (n : ℕ) (bytes : List ℕ) → ℕ
value_from n [] = n
value_from n (b ∷ bytes) = value_from (n * 10 + (b - 48)) bytes

-- one digit or more, of a value that is not too large
unfoldable pub number : (most : ℕ) (bytes : List ℕ) → Option ℕ
number most bytes =
    if ltb 0 (length bytes) && (all_digits bytes && leb (value_from 0 bytes) most) then Some (value_from 0 bytes) else None

-- slots, sequences and the sizes n and m have 32 bits, of which NONE_REF is the highest number; times 64
abbrev pub word_most : ℕ
word_most = NONE

abbrev pub time_most : ℕ
time_most = max_time

-- ---- hashes: two hexadecimal digits, a to f the bytes 97 to 102

abbrev pub hex_digit : (byte : ℕ) → Option ℕ
hex_digit b = if is_digit b then Some (b - 48) else if leb 97 b && leb b 102 then Some (b - 87) else None

abbrev pub hex_pair : (high low : ℕ) → Option ℕ
hex_pair high low = do
  h ← hex_digit high
  l ← hex_digit low
  Some (h * 16 + l)

unfoldable pub hash_byte : (bytes : List ℕ) → Option ℕ
hash_byte bytes = if eqb (length bytes) 2 then hex_pair (get_or bytes 0 0) (get_or bytes 1 0) else None

-- ---- lines; a line with a field that cannot be read is unread

-- what follows the letter; the last field is all that is left
unfoldable pub fresh_of : (fields : List ℕ) → Option Line
fresh_of fields = do
  n ← number word_most (first fields)
  m ← number word_most (rest fields)
  Some (Fresh n m)

unfoldable pub admit_of : (fields : List ℕ) → Option Line
admit_of fields = do
  let hashes = rest fields
  let later = rest hashes
  sequence ← number word_most (first fields)
  hash ← hash_byte (first hashes)
  previous ← hash_byte (first later)
  arrival ← number time_most (rest later)
  Some (Admit (record { 0 = sequence }) hash previous arrival)

unfoldable pub slot_of : (fields : List ℕ) → Option BlockSlot
slot_of fields = option_map (λ slot. record { 0 = slot }) (number word_most fields)

-- V has no field: the line is its letter
unfoldable pub screen_read : (line : List ℕ) → Option Line
screen_read line = if eqb (length line) 1 then Some Screen else None

unfoldable pub timer_of : (fields : List ℕ) → Option Line
timer_of fields = do
  clock ← number time_most (first fields)
  retry ← number time_most (rest fields)
  Some (Timer clock retry)

-- N is 78, A 65, P 80, D 68, U 85, V 86, T 84, R 82
unfoldable pub parse : (line : List ℕ) → Option Line
parse line =
    if eqb (letter line) 78 then fresh_of (rest line)
    else if eqb (letter line) 65 then admit_of (rest line)
    else if eqb (letter line) 80 then option_map Promote (slot_of (rest line))
    else if eqb (letter line) 68 then option_map Remove (slot_of (rest line))
    else if eqb (letter line) 85 then option_map Under (slot_of (rest line))
    else if eqb (letter line) 86 then screen_read line
    else if eqb (letter line) 84 then timer_of (rest line)
    else if eqb (letter line) 82 then option_map Restart (number time_most (rest line))
    else None
