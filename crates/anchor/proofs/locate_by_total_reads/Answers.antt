-- What is left to visit from the present block decides.
use Rattle.std.proofs.Common.{rules, arith, ◌≡◌, ◌-◌, ◌+◌, suc}
use borrow.Author.Tests.{tests}
use Rattle.rules.specs.Anchor.{locate_anchor}
use Rattle.rules.proofs.Walks.{anchor-spent, anchor-empty, anchor-active, anchor-root, anchor-up}
use Rattle.anchor.proofs.locate_by_total_reads.Goals as goal

pub loop-init : goal.loop-init
unfolding locate_anchor
loop-init c = search rules

pub returns-then-not-is_occupied : goal.returns-then-not-is_occupied
returns-then-not-is_occupied c = grind (arith, anchor-empty)

pub returns-then-is_on_active_chain : goal.returns-then-is_on_active_chain
returns-then-is_on_active_chain c = grind (arith, anchor-active)

pub returns-then-eq : goal.returns-then-eq
returns-then-eq c = grind (arith, anchor-root)

pub loop-preserved : goal.loop-preserved
loop-preserved c =
    let e : c.slots-end.result - c.loop.counter ≡ suc (c.slots-end.result - (c.loop.counter + 1)) = omega arith in
    grind (arith, tests, anchor-up)

pub returns : goal.returns
returns c = grind (arith, anchor-spent)
