-- What is remembered stays right, and the present slot tells as much as the first.
use native.Mathlib.Omega.{arith}
use mathlib.Core.Path.{sym, ◌∙◌}
use Rattle.subtree.proofs.Known.{small-parents, same_above, remembered}
use Rattle.subtree.proofs.remember.Goals as goal

pub loop-preserved : goal.loop-preserved
loop-preserved c r h e =
    let small = small-parents c.args.parents.now (λ i. omega (arith, c.type_inv.parents i)) in
    let w = c.loop.invariant r h e in
    let s = same_above _ _ _ _ small w.2 c.loop.current.0 c.in-Some.next.0 w.0 (sym c.in-Some.ensures) in
    (s.0, sym s.1 ∙ w.1, rw c.put_cell.ensures (remembered _ _ _ _ c.loop.current.0 _ w.2 w.1))
