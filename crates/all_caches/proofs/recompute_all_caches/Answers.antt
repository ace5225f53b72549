-- The heads before `k` are done.
use Rattle.std.proofs.Common.{rules}
use Rattle.rules.specs.Caches.{recompute_all}
use Rattle.rules.proofs.Search.{in-order-none, in-order-next}
use Rattle.all_caches.proofs.recompute_all_caches.Goals as goal

pub loop-k-init : goal.loop-k-init
loop-k-init c = search (rules, in-order-none)

pub loop-k-preserved : goal.loop-k-preserved
loop-k-preserved c = search (rules, in-order-next)

pub returns : goal.returns
unfolding recompute_all
returns c = search rules
