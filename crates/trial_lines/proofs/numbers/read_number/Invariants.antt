-- The bytes before this one are digits, and `n` is their value.
use mathlib.Core.Path.{◌≡◌}
use mathlib.Core.Bool.{true}
use lib.ListN.{take, drop}
use Rattle.trial_lines.specs.Reading.{all_digits, value_from}
use Rattle.trial_lines.proofs.numbers.read_number.Given as goal

abbrev pub invariant-loop-byte : goal.invariant-loop-byte
invariant-loop-byte l =
    (all_digits (take l.byte-index l.bytes) ≡ true) × (value_from 0 l.bytes ≡ value_from l.n (drop l.byte-index l.bytes))
