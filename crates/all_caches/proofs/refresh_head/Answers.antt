-- The lowest head with this tip, if there is one.
use Rattle.std.proofs.Common.{rules}
use Rattle.rules.specs.Caches.{refresh_head}
use Rattle.all_caches.proofs.refresh_head.Goals as goal

pub returns-in-Some : goal.returns-in-Some
unfolding refresh_head
returns-in-Some c = search rules

pub returns-in_default : goal.returns-in_default
unfolding refresh_head
returns-in_default c = search rules
