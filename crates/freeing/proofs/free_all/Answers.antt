-- What is left to free.
use native.Mathlib.Omega.{arith}
use Rattle.rules.proofs.Freed.{free-next, free-end}
use Rattle.freeing.proofs.free_all.Goals as goal

pub loop-slot-preserved : goal.loop-slot-preserved
loop-slot-preserved c = grind (arith, free-next)

pub returns : goal.returns
returns c = grind (arith, free-end)
