-- By the tail.
use Rattle.std.proofs.Common.{rules}
use borrow.Author.Tests.{tests}
use Rattle.rules.specs.Caches.{missing_part}
use Rattle.missing_hashes.proofs.missing_part.Goals as goal

pub returns-then-eq : goal.returns-then-eq
unfolding missing_part
returns-then-eq c = search (rules, tests)

pub returns : goal.returns
unfolding missing_part
returns c = search (rules, tests)
