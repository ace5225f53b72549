-- What is left to try from the present slot decides, and where something is known the present slot tells as much as the first.
use native.Mathlib.Omega.{arith}
use Prim.Native.Nat.{ℕ, suc, ◌-◌, ◌+◌}
use mathlib.Core.Path.{◌≡◌, sym, ◌∙◌}
use Rattle.rules.proofs.Walks.{reaches-spent}
use Rattle.subtree.proofs.Known.{small-parents, try-above, same_above, end-told}
use Rattle.subtree.proofs.verdict.Goals as goal

pub returns-in-None : goal.returns-in-None
returns-in-None c r l =
    let small = small-parents c.args.parents.now (λ i. omega (arith, c.type_inv.parents i)) in
    let told = end-told _ _ _ _ small r c.loop.current.0 (omega arith) (sym c.in-None.ensures) in
    rw c.told_at.ensures ((c.loop.invariant.1 r l).1 ∙ told)

pub loop-preserved : goal.loop-preserved
loop-preserved c =
    let small = small-parents c.args.parents.now (λ i. omega (arith, c.type_inv.parents i)) in
    let k : ℕ = c.slots-end.result - (c.loop.counter + 1) in
    let e : c.slots-end.result - c.loop.counter ≡ suc k = omega arith in (
      c.loop.invariant.0 ∙ rw e (try-above _ _ _ _ k c.loop.current.0 c.in-Some.next.0 (sym c.in-Some.ensures)),
      λ r h.
          let w = c.loop.invariant.1 r h in
          let s = same_above _ _ _ _ small r c.loop.current.0 c.in-Some.next.0 w.0 (sym c.in-Some.ensures) in
          (s.0, w.1 ∙ s.1),
    )

pub returns : goal.returns
returns c r l =
    let spent = reaches-spent _ _ _ (c.slots-end.result - c.loop.counter) c.loop.current.0 (omega arith) in
    rw (← c.slots-end.ensures) (c.loop.invariant.0 ∙ spent)
