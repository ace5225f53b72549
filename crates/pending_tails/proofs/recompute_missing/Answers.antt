-- The heads before `k` are done.
use Rattle.std.proofs.Common.{rules}
use Rattle.rules.specs.Admission.{recompute_missing}
use Rattle.rules.proofs.Search.{in-order-none, in-order-then}
use Rattle.pending_tails.proofs.recompute_missing.Goals as goal

pub loop-k-init : goal.loop-k-init
loop-k-init c = search (rules, in-order-none)

pub loop-k-preserved : goal.loop-k-preserved
loop-k-preserved c = in-order-then _ _ _ _ _ c.recompute_missed.ensures c.loop-k.invariant

pub returns : goal.returns
unfolding recompute_missing
returns c = search rules
