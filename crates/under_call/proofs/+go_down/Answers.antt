-- What is counted, with what is left, is the whole.
use native.Mathlib.Omega.{arith}
use mathlib.Core.Path.{◌≡◌, sym, ◌∙◌}
use borrow.Author.Tests.{eqb-true, eqb-false}
use Prim.Native.Nat.{◌<◌, max}
use Rattle.under_call.proofs.Higher.{higher}
use Rattle.under_call.proofs.Down.{ends-none, ends-spent, goes-to-children, goes-to-sibling, next-falls, placed_below_lem, from-few, rank-some, rank-few}
use Rattle.under_call.proofs.+go_down.Goals as goal

pub returns-then-eq : goal.returns-then-eq
returns-then-eq t c = λ parents p. ends-none parents _ _ _ _ _ _ _ _ _ (c.loop-left.invariant.1 parents p) (eqb-true _ _ (sym c.if-eq.ensures))

pub overflow_add-blocks : goal.overflow_add-blocks
overflow_add-blocks t c =
    let (few, (parents, placed)) = c.requires in
    omega (arith, (c.loop-left.invariant.1 parents placed).number, from-few parents _ _ _ _ _ few placed)

pub loop-left-smaller-then-eq-2 : goal.loop-left-smaller-then-eq-2
loop-left-smaller-then-eq-2 t c =
    let (few, (parents, placed)) = c.requires in
    let real = eqb-false c.loop-left.child.0 _ (sym c.if-eq.ensures) in
    let g = c.loop-left.invariant.1 parents placed in
    let some = rank-some c.loop-left.child.0 real in
    let small = rank-few parents _ _ _ _ (placed_below_lem parents _ _ _ c.loop-left.child.0 g.placed real) in
    rw c.cell_at-in-loop-left.ensures (omega arith)

pub loop-left-preserved-then-eq-2 : goal.loop-left-preserved-then-eq-2
loop-left-preserved-then-eq-2 t c =
    let own : c.max-highest.result.0 ≡ max c.loop-left.highest.0 c.cell_at.result = higher _ _ _ c.max-highest.ensures in (
      omega arith,
      λ parents p. rw (c.cell_at-in-loop-left.ensures, own, c.cell_at.ensures)
          (goes-to-children parents _ _ _ _ _ _ _ _ _ (c.loop-left.invariant.1 parents p) (omega arith)
          (eqb-false _ _ (sym c.if-eq.ensures)) (sym c.cell_at-in-loop-left-2.ensures ∙ eqb-true _ _ (sym c.if-eq-2.ensures))),
    )

pub go_down-met-requires : goal.go_down-met-requires
go_down-met-requires t c =
    let (few, (parents, placed)) = c.requires in
    let g = c.loop-left.invariant.1 parents placed in
    (omega arith, (omega arith, (parents, rw c.cell_at-in-loop-left.ensures (placed_below_lem parents _ _ _ _ g.placed (eqb-false _ _ (sym c.if-eq.ensures))))))

pub overflow_add-blocks-else-eq-2 : goal.overflow_add-blocks-else-eq-2
overflow_add-blocks-else-eq-2 t c =
    let (few, (parents, placed)) = c.requires in
    let real = eqb-false c.loop-left.child.0 _ (sym c.if-eq.ensures) in
    let below = c.cell_at-in-loop-left in
    let some : 0 < c.loop-left.left = omega arith in
    let gone = c.go_down-met in
    let g = c.loop-left.invariant.1 parents placed in
    let came = gone.ensures parents (rw below.ensures (placed_below_lem parents _ _ _ _ g.placed real)) in
    omega (
      arith,
      (goes-to-sibling parents _ _ _ _ _ _ _ _ _ g some real gone.result.blocks gone.result.highest.0 (rw (← below.ensures) came.0) (rw (← below.ensures) came.1)).number,
      from-few parents _ _ _ _ _ few placed,
    )

pub loop-left-smaller : goal.loop-left-smaller
loop-left-smaller t c =
    let (few, (parents, placed)) = c.requires in
    let real = eqb-false c.loop-left.child.0 _ (sym c.if-eq.ensures) in
    let sibling = c.cell_at-in-loop-left-2 in
    let more = eqb-false _ _ (sym c.if-eq-2.ensures) in
    let g = c.loop-left.invariant.1 parents placed in
    let some = rank-some c.loop-left.child.0 real in
    let falls = next-falls parents _ _ _ c.loop-left.child.0 g.placed real (λ e. more (sibling.ensures ∙ e)) in
    omega (arith, rank-some sibling.result more, sibling.ensures)

pub loop-left-preserved : goal.loop-left-preserved
loop-left-preserved t c =
    let real = eqb-false c.loop-left.child.0 _ (sym c.if-eq.ensures) in
    let below = c.cell_at-in-loop-left in
    let sibling = c.cell_at-in-loop-left-2 in
    let some : 0 < c.loop-left.left = omega arith in
    let gone = c.go_down-met in
    let own : c.max-highest.result.0 ≡ max c.loop-left.highest.0 c.cell_at.result = higher _ _ _ c.max-highest.ensures in
    let all : c.max-highest-else-eq-2.result.0 ≡ max c.max-highest.result.0 gone.result.highest.0 =
    higher _ _ _ c.max-highest-else-eq-2.ensures in (
      omega arith,
      λ parents p.
          let g = c.loop-left.invariant.1 parents p in
          let came = gone.ensures parents (rw below.ensures (placed_below_lem parents _ _ _ _ g.placed real)) in
          rw (sibling.ensures, all, own, c.cell_at.ensures)
          (goes-to-sibling parents _ _ _ _ _ _ _ _ _ g some real gone.result.blocks gone.result.highest.0 (rw (← below.ensures) came.0) (rw (← below.ensures) came.1)),
    )

pub returns : goal.returns
returns t c = λ parents p. ends-spent parents _ _ _ _ _ _ _ _ _ (c.loop-left.invariant.1 parents p) (omega arith)
