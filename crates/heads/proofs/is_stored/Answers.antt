-- In use, and not connected.
use Rattle.std.proofs.Common.{rules}
use Rattle.rules.specs.Records.{stored}
use Rattle.heads.proofs.is_stored.Goals as goal

pub returns-then-is_used : goal.returns-then-is_used
unfolding stored
returns-then-is_used c = search rules

pub returns-else-is_used : goal.returns-else-is_used
unfolding stored
returns-else-is_used c = search rules
