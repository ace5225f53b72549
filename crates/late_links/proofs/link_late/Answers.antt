-- By whether it is late.
use Rattle.std.proofs.Common.{rules}
use Rattle.rules.specs.Admission.{link_late}
use Rattle.late_links.proofs.link_late.Goals as goal

pub returns-then-is_late : goal.returns-then-is_late
unfolding link_late
returns-then-is_late c = search rules

pub returns-else-is_late : goal.returns-else-is_late
unfolding link_late
returns-else-is_late c = search rules
