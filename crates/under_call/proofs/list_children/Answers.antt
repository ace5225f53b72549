-- The blocks before `i` are listed.
use native.Mathlib.Omega.{arith}
use mathlib.Core.Path.{sym}
use Rattle.under_call.proofs.Lists.{skip-empty, list-block}
use Rattle.under_call.proofs.list_children.Goals as goal
use Rattle.under_call.proofs.list_children.Goals.{then-is_occupied, else-is_occupied}

pub loop-i-preserved : goal.loop-i-preserved
loop-i-preserved c l = elim c.if-is_occupied.branch [
  | then-is_occupied w ↦ rw (w.first-is, w.next-is, w.list_child.ensures.0, w.list_child.ensures.1)
      (list-block _ _ c.loop-i.i _ _ (c.loop-i.invariant l) (omega (arith, c.slots-i-end.ensures)) (sym w.if-is_occupied.ensures))
  | else-is_occupied w ↦ rw (w.first-is, w.next-is) (skip-empty _ _ c.loop-i.i _ _ (c.loop-i.invariant l) (sym w.if-is_occupied.ensures))
]
