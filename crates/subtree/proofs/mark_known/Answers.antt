-- The slots before `i` of the subtree are listed, and what is remembered is right.
use native.Mathlib.Omega.{arith}
use Rattle.std.proofs.lemmas.Grind.{common_steps}
use mathlib.Core.Path.{◌≡◌}
use Rattle.rules.specs.Records.{slots_of}
use Rattle.rules.specs.BlockTable.{in_subtree, mark_subtree}
use Rattle.rules.proofs.Search.{all_none, all-passes, all-fails}
use Rattle.rules.proofs.Cells.{sets-append}
use Rattle.subtree.proofs.mark_known.Goals as goal
use Rattle.subtree.proofs.mark_known.Goals.{then-is_under, else-is_under}

pub loop-i-init : goal.loop-i-init
loop-i-init c = (omega arith, λ r. (r, rw all_none, rw all_none))

pub loop-i-preserved : goal.loop-i-preserved
loop-i-preserved c = (
  grind (arith, common_steps),
  λ r.
      let test = in_subtree c.args.parents.now c.args.sequences.now c.args.root.0 in
      let g = c.loop-i.invariant.1 r in
      let v = c.is_under.ensures g.0 (omega (arith, c.slots-i-end.ensures)) in
      let passes = all-passes test c.loop-i.i in
      let fails = all-fails test c.loop-i.i in
      (v.1, grind (arith, common_steps), grind (arith, common_steps, sets-append)),
)

pub returns : goal.returns
unfolding mark_subtree
returns c r =
    let w = c.loop-i.invariant.1 r in
    let d : c.loop-i.i ≡ slots_of c.args.sequences.now = omega (arith, c.slots-i-end.ensures) in
    rw (r.there, ← d) (w.1, w.2)
