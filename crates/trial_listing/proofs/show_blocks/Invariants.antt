-- The lines of the slots before `i` are written.
use mathlib.Core.Path.{◌≡◌}
use Rattle.trial_lines.specs.Printing.{printed}
use Rattle.trial_listing.specs.Listing.{block_shown, lines_below}
use Rattle.trial_listing.proofs.show_blocks.Given as goal

abbrev pub invariant-loop-i : goal.invariant-loop-i
invariant-loop-i l = l.page ≡ printed l.initial.page (lines_below (block_shown l.parents l.sequences l.counts l.flags) l.i)
