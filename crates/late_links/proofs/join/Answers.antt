-- By whether the new block is a head.
use Rattle.std.proofs.Common.{rules}
use Rattle.rules.specs.BlockTable.{adjust}
use Rattle.rules.specs.Admission.{joined}
use Rattle.late_links.proofs.join.Goals as goal

pub returns-in-Some : goal.returns-in-Some
unfolding joined
returns-in-Some c = search rules

pub returns-in-None : goal.returns-in-None
unfolding joined adjust
returns-in-None c = search rules
