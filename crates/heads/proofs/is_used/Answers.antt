-- The tip is not NONE_REF.
use Rattle.std.proofs.Common.{rules}
use Rattle.rules.specs.Records.{used}
use Rattle.heads.proofs.is_used.Goals as goal

pub returns : goal.returns
unfolding used
returns c = search rules
