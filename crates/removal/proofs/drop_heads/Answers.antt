-- The heads before `k` are done.
use native.Mathlib.Omega.{arith}
use mathlib.Core.Path.{◌≡◌, sym}
use Rattle.rules.specs.Removal.{drop_heads}
use Rattle.rules.proofs.Search.{in-order-none, in-order-then}
use Rattle.removal.proofs.drop_heads.Goals as goal

pub loop-k-init : goal.loop-k-init
loop-k-init c = sym (in-order-none _ _)

pub loop-k-preserved : goal.loop-k-preserved
loop-k-preserved c = in-order-then _ c.loop-k.k _ _ _ c.drop_head.ensures c.loop-k.invariant

pub returns : goal.returns
unfolding drop_heads
returns c =
    let e : c.loop-k.k ≡ c.slots-k-end.result = omega arith in
    rw (← c.slots-k-end.ensures, ← e) c.loop-k.invariant
