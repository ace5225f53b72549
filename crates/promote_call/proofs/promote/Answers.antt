-- Each test in turn.
use mathlib.Core.Path.{sym}
use Rattle.promote_call.proofs.Promoted.{misshapen, no_block, not-next, raised}
use Rattle.promote_call.proofs.promote.Goals as goal

pub returns-then-not-is_shaped : goal.returns-then-not-is_shaped
returns-then-not-is_shaped c = misshapen _ _ (sym c.if-not-is_shaped.ensures)

pub returns-then-not-is_occupied : goal.returns-then-not-is_occupied
returns-then-not-is_occupied c =
    no_block _ _ (sym c.if-not-is_shaped.ensures) (sym c.if-not-is_occupied.ensures)

pub returns-then-not-is_next : goal.returns-then-not-is_next
returns-then-not-is_next c =
    not-next _ _ (sym c.if-not-is_shaped.ensures) (sym c.if-not-is_occupied.ensures) (sym c.if-not-is_next.ensures)

pub returns : goal.returns
returns c =
    raised _ _ (sym c.if-not-is_shaped.ensures) (sym c.if-not-is_occupied.ensures) _ (sym c.if-not-is_next.ensures) c.raise.ensures
