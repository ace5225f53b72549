-- The lines of the heads before `k` are written.
use mathlib.Core.Path.{◌≡◌}
use Rattle.trial_lines.specs.Printing.{printed}
use Rattle.trial_listing.specs.Listing.{head_shown, lines_below}
use Rattle.trial_listing.proofs.show_heads.Given as goal

abbrev pub invariant-loop-k : goal.invariant-loop-k
invariant-loop-k l = l.page ≡ printed l.initial.page (lines_below (head_shown l.tips l.tails l.connected) l.k)
