-- A stored head, with this tail.
use Rattle.std.proofs.Common.{rules}
use borrow.Author.Tests.{tests}
use Rattle.rules.specs.Caches.{waits_at}
use Rattle.missing_hashes.proofs.waits_at.Goals as goal

pub returns-then-cell_at-tail : goal.returns-then-cell_at-tail
unfolding waits_at
returns-then-cell_at-tail c = search (rules, tests)

pub returns-else-cell_at-tail : goal.returns-else-cell_at-tail
unfolding waits_at
returns-else-cell_at-tail c = search (rules, tests)
