-- What is left to visit from the present block.
use native.Mathlib.Omega.{arith}
use mathlib.Core.Path.{sym, ◌∙◌}
use Rattle.eviction.proofs.Walk.{walk-spent, walk-stops, walk-goes}
use Rattle.eviction.proofs.evict_from.Goals as goal

pub returns-in-None : goal.returns-in-None
returns-in-None c =
    rw (← c.slots-end.ensures)
    (walk-stops _ _ _ _ (omega (arith, c.loop-test.true)) c.in-None.ensures ∙ sym c.loop.invariant)

pub loop-preserved : goal.loop-preserved
loop-preserved c =
    c.loop.invariant ∙ walk-goes _ _ _ _ _ _ (omega (arith, c.loop-test.true)) c.in-Some.ensures

pub returns : goal.returns
returns c = rw (← c.slots-end.ensures) (walk-spent _ _ _ _ (omega arith) c.loop.invariant)
