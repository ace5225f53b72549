-- Each line that is written fits a buffer of 96 bytes.
use mathlib.Core.Path.{◌≡◌, refl}
use mathlib.Core.Bool.{Bool}
use mathlib.Core.List.{List, [], ◌∷◌}
use Prim.Native.Nat.{ℕ, zero, suc, ◌*◌, ◌/◌, ◌≤◌}
use native.Mathlib.Omega.{arith}
use lib.Dec.{eqb, ltb}
use lib.ListN.{length, length-append}
use Rattle.rules.specs.Records.{NONE}
use Rattle.rules.specs.declared.HeadRow.{HeadRow}
use Rattle.rules.proofs.Splits.{split}
use Rattle.trial_lines.specs.Writing.{digit, digits_in, hex, field, reference, number_line, hanging_line, row_line, rows_lines, request_line, block_line, head_line}

pub digits-short : (places n : ℕ) → length (digits_in places n) ≤ places
unfolding digits_in
digits-short zero n = omega arith
digits-short (suc places) n =
    split (ltb n 10)
    (λ e. rw e (omega arith))
    (λ e. rw e (let h = digits-short places (n / 10) in omega (arith, length-append (digits_in places (n / 10)) (digit n ∷ []))))

field-short : (n : ℕ) → length (field n) ≤ 11
unfolding field
field-short n = let h = digits-short 10 n in omega arith

reference-short : (n : ℕ) → length (reference n) ≤ 11
unfolding reference
reference-short n = split (eqb n NONE) (λ e. rw e (omega arith)) (λ e. rw e (field-short n))

hex-two : (byte : ℕ) → length (hex byte) ≡ 2
unfolding hex
hex-two byte = refl

pub number_short : (letter n : ℕ) → length (number_line letter n) ≤ 96
unfolding number_line
number_short letter n = simp length-append (omega (arith, field-short n))

pub hanging-short : (blocks highest : ℕ) → length (hanging_line blocks highest) ≤ 96
unfolding hanging_line
hanging-short blocks highest = simp length-append (omega (arith, field-short blocks, field-short highest))

row-short : (row : HeadRow) → length (row_line row) ≤ 37
unfolding row_line
row-short row =
    simp length-append (omega (arith, reference-short row.tip.0, reference-short row.sequence.0, reference-short row.anchor.0))

pub rows_short : (rows : List HeadRow) → length (rows_lines rows) ≤ 37 * length rows
unfolding rows_lines
rows_short [] = omega arith
rows_short (row ∷ rows) = omega (arith, length-append (row_line row) (rows_lines rows), row-short row, rows_short rows)

pub request-short : (head claimed hash : ℕ) → length (request_line head claimed hash) ≤ 96
unfolding request_line
request-short head claimed hash = simp length-append (omega (arith, field-short head, field-short claimed, hex-two hash))

pub block-short : (slot sequence parent count : ℕ) (active : Bool) → length (block_line slot sequence parent count active) ≤ 96
unfolding block_line
block-short slot sequence parent count active =
    simp length-append (omega (arith, field-short slot, field-short sequence, reference-short parent, field-short count))

pub head-short : (slot tip : ℕ) (connected : Bool) (anchor : ℕ) → length (head_line slot tip connected anchor) ≤ 96
unfolding head_line
head-short slot tip connected anchor = simp length-append (omega (arith, field-short slot, reference-short tip, reference-short anchor))
