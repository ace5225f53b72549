-- The lines that a trial prints (01, "One trial whole"), as bytes: a space is 32, `-` 45, the end of a line 10.
use Rattle.std.specs.Prelude.{Bool, List, [], ◌∷◌, ◌++◌, ℕ, zero, suc, ◌+◌, ◌/◌, ◌%◌, min, max, eqb, ltb, if◌then◌else◌}
use Rattle.rules.specs.Kinds.{BlockSlot, HeadSlot, Sequence}
use Rattle.rules.specs.Records.{NONE}
use Rattle.rules.specs.declared.HeadRow.{HeadRow}

-- the place after k bytes from a place of a buffer on: its end, where they have no room
unfoldable pub place : (room at k : ℕ) → ℕ
place room at k = max at (min (at + k) room)

-- ---- numbers

-- the last digit
abbrev pub digit : (n : ℕ) → ℕ
digit n = 48 + n % 10

-- in at most so many places
unfoldable pub digits_in : (places n : ℕ) → List ℕ
digits_in zero n = []
digits_in (suc places) n = if ltb n 10 then digit n ∷ [] else digits_in places (n / 10) ++ digit n ∷ []

-- a number of 64 bits has at most 20
unfoldable pub digits : (n : ℕ) → List ℕ
digits n = digits_in 20 n

-- 0 to 9, then a to f
abbrev pub hex_char : (value : ℕ) → ℕ
hex_char d = if ltb d 10 then 48 + d else 87 + d

unfoldable pub hex : (byte : ℕ) → List ℕ
hex byte = hex_char (byte / 16 % 16) ∷ hex_char (byte % 16) ∷ []

-- ---- fields, each after a space

-- a number of 32 bits has at most 10 digits
unfoldable pub field : (n : ℕ) → List ℕ
field n = 32 ∷ digits_in 10 n

-- a slot or a sequence; - is none
unfoldable pub reference : (n : ℕ) → List ℕ
reference n = if eqb n NONE then 32 ∷ 45 ∷ [] else field n

-- ---- lines

unfoldable pub letter_line : (letter : ℕ) → List ℕ
letter_line letter = letter ∷ 10 ∷ []

unfoldable pub number_line : (letter n : ℕ) → List ℕ
number_line letter n = letter ∷ (field n ++ 10 ∷ [])

-- U blocks highest
unfoldable pub hanging_line : (blocks : ℕ) (highest : Sequence) → List ℕ
hanging_line blocks highest = 85 ∷ (field blocks ++ (field highest ++ 10 ∷ []))

-- V tip sequence C-or-S anchor, of a record of the screen
unfoldable pub row_line : (row : HeadRow) → List ℕ
row_line row =
    86 ∷ (reference row.tip.0 ++ (reference row.sequence.0 ++ 32 ∷ (if eqb row.kind.0 1 then 67 else 83) ∷ (reference row.anchor.0 ++ 10 ∷ [])))

-- one after the other
unfoldable pub rows_lines : (rows : List HeadRow) → List ℕ
rows_lines [] = []
rows_lines (row ∷ rows) = row_line row ++ rows_lines rows

-- T head claimed hash
unfoldable pub request_line : (head : HeadSlot) (claimed : Sequence) (hash : ℕ) → List ℕ
request_line head claimed hash = 84 ∷ (field head ++ (field claimed ++ 32 ∷ (hex hash ++ 10 ∷ [])))

-- T -
unfoldable pub none_due_line : List ℕ
none_due_line = 84 ∷ 32 ∷ 45 ∷ 10 ∷ []

-- B slot sequence parent count active
unfoldable pub block_line : (slot : BlockSlot) (sequence : Sequence) (parent : BlockSlot) (count : ℕ) (active : Bool) → List ℕ
block_line slot sequence parent count active =
    66 ∷ (field slot ++ (field sequence ++ (reference parent ++ (field count ++ 32 ∷ (if active then 49 else 48) ∷ 10 ∷ []))))

-- H slot tip C-or-S anchor
unfoldable pub head_line : (slot : HeadSlot) (tip : BlockSlot) (connected : Bool) (anchor : BlockSlot) → List ℕ
head_line slot tip connected anchor =
    72 ∷ (field slot ++ (reference tip ++ 32 ∷ (if connected then 67 else 83) ∷ (reference anchor ++ 10 ∷ [])))
