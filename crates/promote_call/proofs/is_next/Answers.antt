-- None held, or its parent held.
use mathlib.Core.Path.{sym}
use Rattle.rules.specs.Calls.{is_next}
use Rattle.promote_call.proofs.is_next.Goals as goal

pub returns-then-eq : goal.returns-then-eq
unfolding is_next
returns-then-eq c = rw (← c.eq.ensures, c.if-eq.true)

pub returns-else-eq : goal.returns-else-eq
unfolding is_next
returns-else-eq c = rw (sym c.if-eq.ensures, ← c.cell_at.ensures, ← c.eq-else-eq.ensures)
