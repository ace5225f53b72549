-- The blocks before `i` have named their parents.
use Rattle.std.proofs.Common.{rules}
use native.Mathlib.Omega.{arith}
use mathlib.Core.Path.{◌≡◌, sym, ◌∙◌}
use Rattle.rules.proofs.Search.{in-order-none, in-order-then}
use Rattle.named_parents.specs.Named.{named_parents}
use Rattle.named_parents.proofs.name_parents.Goals as goal

pub loop-i-init : goal.loop-i-init
loop-i-init c = c.fill.ensures.after (λ y k. search rules) ∙ sym (in-order-none _ _)

pub loop-i-preserved : goal.loop-i-preserved
loop-i-preserved c = in-order-then _ c.loop-i.i _ _ _ c.name_parent.ensures c.loop-i.invariant

pub returns : goal.returns
unfolding named_parents
returns c =
    let e : c.loop-i.i ≡ c.slots-i-end.result = omega arith in
    rw (← c.slots-i-end.ensures, ← e) c.loop-i.invariant
