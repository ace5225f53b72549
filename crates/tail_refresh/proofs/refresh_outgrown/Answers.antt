-- By whether its tail has got a parent.
use Rattle.std.proofs.Common.{rules}
use Rattle.rules.specs.Admission.{refresh_outgrown}
use Rattle.tail_refresh.proofs.refresh_outgrown.Goals as goal

pub returns-then-has_outgrown : goal.returns-then-has_outgrown
unfolding refresh_outgrown
returns-then-has_outgrown c = search rules

pub returns-else-has_outgrown : goal.returns-else-has_outgrown
unfolding refresh_outgrown
returns-else-has_outgrown c = search rules
