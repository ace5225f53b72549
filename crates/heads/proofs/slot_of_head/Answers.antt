-- The first head with the tip, if that is a block.
use Rattle.std.proofs.Common.{rules}
use borrow.Author.Tests.{tests}
use Rattle.heads.proofs.Tips.{head-by-tip, no-head}
use Rattle.heads.proofs.slot_of_head.Goals as goal

pub returns-then-eq : goal.returns-then-eq
returns-then-eq c = search (rules, tests, no-head)

pub returns : goal.returns
returns c = search (rules, tests, head-by-tip)
