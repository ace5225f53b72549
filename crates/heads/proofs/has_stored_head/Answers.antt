-- One of the range is stored.
use Rattle.std.proofs.Common.{rules}
use borrow.Author.Tests.{tests}
use Rattle.rules.specs.Records.{has_stored_head}
use Rattle.rules.proofs.Ranges.{any-lowest}
use Rattle.heads.proofs.has_stored_head.Goals as goal

pub returns : goal.returns
unfolding has_stored_head
returns c = any-lowest _ _ _ c.slots.ensures c.any.ensures.ran (λ x b q k. search (rules, tests))
