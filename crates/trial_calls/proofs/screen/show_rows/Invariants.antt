-- The lines of the records before `i` are written.
use mathlib.Core.Path.{◌≡◌}
use Rattle.screen_call.specs.Keys.{rows_in}
use Rattle.trial_lines.specs.Writing.{rows_lines}
use Rattle.trial_lines.specs.Printing.{printed}
use Rattle.trial_calls.proofs.screen.show_rows.Given as goal

abbrev pub invariant-loop-i : goal.invariant-loop-i
invariant-loop-i l = l.page ≡ printed l.initial.page (rows_lines (rows_in l.sequences l.tips l.tails l.connected l.keys l.i))
