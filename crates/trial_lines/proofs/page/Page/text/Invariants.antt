-- What stands before the byte is printed.
use mathlib.Core.Path.{◌≡◌}
use lib.ListN.{take}
use Rattle.trial_lines.specs.Printing.{printed}
use Rattle.trial_lines.proofs.page.Page.text.Given as goal

abbrev pub invariant-loop-byte : goal.invariant-loop-byte
invariant-loop-byte l = l.self ≡ printed l.initial.self (take l.byte-index l.text)
