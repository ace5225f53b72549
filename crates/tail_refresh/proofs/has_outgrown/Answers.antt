-- The tests in turn.
use Rattle.std.proofs.Common.{rules}
use borrow.Author.Tests.{tests}
use Rattle.rules.specs.Admission.{outgrown}
use Rattle.tail_refresh.proofs.has_outgrown.Goals as goal

pub returns-then-is_occupied : goal.returns-then-is_occupied
unfolding outgrown
returns-then-is_occupied c = search (rules, tests)

pub returns-else-is_occupied : goal.returns-else-is_occupied
unfolding outgrown
returns-else-is_occupied c = search (rules, tests)
