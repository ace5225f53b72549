-- An empty head is left alone.
use Rattle.std.proofs.Common.{rules}
use Rattle.rules.specs.Caches.{recompute_used}
use Rattle.all_caches.proofs.recompute_used.Goals as goal

pub returns-then-is_used : goal.returns-then-is_used
unfolding recompute_used
returns-then-is_used c = search rules

pub returns-else-is_used : goal.returns-else-is_used
unfolding recompute_used
returns-else-is_used c = search rules
