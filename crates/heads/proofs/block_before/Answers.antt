-- Sequences first, then hashes.
use Rattle.std.proofs.Common.{rules}
use borrow.Author.Tests.{tests}
use Rattle.rules.specs.Eviction.{block_before}
use Rattle.heads.proofs.block_before.Goals as goal

pub returns-then-lt : goal.returns-then-lt
unfolding block_before
returns-then-lt c = search (rules, tests)

pub returns-then-eq : goal.returns-then-eq
unfolding block_before
returns-then-eq c = search (rules, tests)

pub returns-else-eq : goal.returns-else-eq
unfolding block_before
returns-else-eq c = search (rules, tests)
