-- What is told without a walk is what the rule gives, and is remembered.
use native.Mathlib.Omega.{arith}
use mathlib.Core.Path.{◌≡◌, sym, ◌∙◌}
use mathlib.Core.Bool.{true}
use Rattle.rules.specs.Records.{slots_of, occupied}
use Rattle.rules.specs.BlockTable.{in_subtree}
use Rattle.subtree.proofs.Known.{small-parents, at-once-told, remembered}
use Rattle.subtree.proofs.is_under.Goals as goal

pub returns-then-is_known : goal.returns-then-is_known
unfolding in_subtree slots_of
returns-then-is_known c r l =
    let small = small-parents c.args.parents.now (λ i. omega (arith, c.type_inv.parents i)) in
    let o : occupied c.args.sequences.now c.args.slot.0 ≡ true = sym c.is_occupied.ensures ∙ c.if-not-is_occupied.false in
    let k = sym c.is_known.ensures ∙ c.if-is_known.true in
    let e = at-once-told _ _ _ _ small r c.args.slot.0 _ (omega arith) (omega arith) o (sym c.told_at_once-told.ensures) k in
    (rw (o, c.reaches.ensures) (sym e), rw c.put_cell.ensures (remembered _ _ _ _ c.args.slot.0 _ r e))
