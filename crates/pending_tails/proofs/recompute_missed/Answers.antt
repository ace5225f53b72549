-- By whether it missed the hash.
use Rattle.std.proofs.Common.{rules}
use Rattle.rules.specs.Admission.{recompute_missed}
use Rattle.pending_tails.proofs.recompute_missed.Goals as goal

pub returns-then-misses : goal.returns-then-misses
unfolding recompute_missed
returns-then-misses c = search rules

pub returns-else-misses : goal.returns-else-misses
unfolding recompute_missed
returns-else-misses c = search rules
