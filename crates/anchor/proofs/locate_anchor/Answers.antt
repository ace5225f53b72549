-- What is left to visit from the present block decides.
use Rattle.std.proofs.Common.{rules, arith, ◌≡◌, ◌-◌, ◌+◌, suc}
use Rattle.std.proofs.lemmas.Bool.Decides.{nat_tests}
use Rattle.rules.specs.Records.{NONE, active}
use Rattle.rules.specs.Anchor.{locate_anchor}
use Rattle.rules.proofs.Cells.{get_d_any}
use Rattle.rules.proofs.Walks.{anchor-spent, anchor-empty, anchor-active}
use Rattle.anchor.proofs.Range.{past_the_end, in_range, anchor-goes}
use Rattle.anchor.proofs.locate_anchor.Goals as goal

pub loop-init : goal.loop-init
unfolding locate_anchor
loop-init c = search rules

pub returns-then-len-k : goal.returns-then-len-k
returns-then-len-k c = grind (arith, nat_tests, anchor-empty, past_the_end, in_range)

pub returns-then-flags-k-eq1 : goal.returns-then-flags-k-eq1
unfolding active
returns-then-flags-k-eq1 c = grind (arith, nat_tests, anchor-active, in_range)

pub loop-preserved : goal.loop-preserved
unfolding active
loop-preserved c =
    let e : c.slots-n.result - c.loop.counter ≡ suc (c.slots-n.result - (c.loop.counter + 1)) = omega arith in
    let d = get_d_any c.args.parents.now c.loop.current.0 0 NONE (omega arith) in
    grind (arith, nat_tests, anchor-goes, in_range)

pub returns-then-len-flags : goal.returns-then-len-flags
returns-then-len-flags c = grind (arith, anchor-spent)
