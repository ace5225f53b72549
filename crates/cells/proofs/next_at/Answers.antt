-- What is left to look at.
use Rattle.std.proofs.Common.{rules, ◌∙◌}
use borrow.Author.Tests.{tests}
use Rattle.rules.proofs.Ranges.{find-on}
use Rattle.cells.proofs.Places.{next-from}
use Rattle.cells.proofs.next_at.Goals as goal

pub returns : goal.returns
returns c =
    find-on _ _ _ c.slots-n.ensures c.find.ensures.ran (λ x b q k. search (rules, tests))
    ∙ next-from _ _ _ c.loop-first.first c.loop-first.invariant
