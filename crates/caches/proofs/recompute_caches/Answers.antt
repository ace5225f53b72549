-- By where the walk ends.
use Rattle.std.proofs.Common.{rules}
use Rattle.rules.specs.Caches.{keep, recompute}
use Rattle.caches.proofs.recompute_caches.Goals as goal

pub returns-in-Connection : goal.returns-in-Connection
unfolding recompute keep
returns-in-Connection c = search rules

pub returns-in-Tail : goal.returns-in-Tail
unfolding recompute keep
returns-in-Tail c = search rules
