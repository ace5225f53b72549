-- The parent, then the count or the head.
use Rattle.std.proofs.Common.{rules}
use Rattle.rules.specs.Admission.{link}
use Rattle.late_links.proofs.link.Goals as goal

pub returns : goal.returns
unfolding link
returns c = search rules
