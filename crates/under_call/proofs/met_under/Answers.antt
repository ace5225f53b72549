-- The lists, the way down them, and the block itself.
use native.Mathlib.Omega.{arith}
use mathlib.Core.Path.{ap, ◌∙◌}
use Prim.Native.Nat.{◌-◌}
use Rattle.under_call.proofs.Lists.{none-listed}
use Rattle.under_call.proofs.Higher.{higher}
use Rattle.under_call.proofs.Down.{from-few, root-slot, root-placed, root-number, root-highest}
use Rattle.under_call.proofs.met_under.Goals as goal

pub overflow_sub-slots : goal.overflow_sub-slots
overflow_sub-slots c =
    omega (arith, c.slots.ensures, root-slot c.args.sequences.now c.args.root.0 c.requires.0 c.requires.1)

pub go_down-met-requires : goal.go_down-met-requires
go_down-met-requires c =
    let a = c.args in
    let (small, there) = c.requires in
    let listed = c.list_children.ensures (none-listed a.parents.now a.sequences.now small) in (
      omega (arith, c.slots.ensures),
      (a.parents.now, root-placed a.parents.now a.sequences.now _ _ a.root.0 small listed there c.cell_at.result c.cell_at.ensures),
    )

pub overflow_add-result : goal.overflow_add-result
overflow_add-result c =
    let a = c.args in
    let (small, there) = c.requires in
    let listed = c.list_children.ensures (none-listed a.parents.now a.sequences.now small) in
    let placed = root-placed a.parents.now a.sequences.now _ _ a.root.0 small listed there c.cell_at.result c.cell_at.ensures in
    omega (arith, (c.go_down-met.ensures a.parents.now placed).0, from-few a.parents.now a.sequences.now _ _ (c.slots.result - 1) _ (omega (arith, c.slots.ensures)) placed)

pub returns : goal.returns
returns c =
    let a = c.args in
    let (small, there) = c.requires in
    let listed = c.list_children.ensures (none-listed a.parents.now a.sequences.now small) in
    let placed = root-placed a.parents.now a.sequences.now _ _ a.root.0 small listed there c.cell_at.result c.cell_at.ensures in
    let (number, most) = c.go_down-met.ensures a.parents.now placed in (
      root-number a.parents.now a.sequences.now _ _ a.root.0 small listed there _ _ _ 0 c.cell_at.ensures (ap (λ n. n - 1) c.slots.ensures) number,
      higher _ _ _ c.max.ensures
          ∙ root-highest a.parents.now a.sequences.now _ _ a.root.0 small listed there _ _ 0 _ c.cell_at.ensures (ap (λ n. n - 1) c.slots.ensures) _ c.cell_at-2.ensures most,
    )
