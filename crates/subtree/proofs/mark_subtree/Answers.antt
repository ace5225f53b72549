-- At first nothing is known.
use mathlib.Core.Path.{sym, ◌∙◌}
use Rattle.rules.specs.Calls.{max_blocks}
use Rattle.subtree.proofs.Known.{nothing_known}
use Rattle.subtree.proofs.mark_subtree.Goals as goal

pub returns : goal.returns
returns c = c.mark_known.ensures (nothing_known _ _ _ max_blocks (sym c.is_occupied.ensures ∙ c.if-not-is_occupied.false))
