-- The heads before `k` in use are counted.
use native.Mathlib.Omega.{arith}
use mathlib.Core.Path.{◌≡◌, sym, ◌∙◌}
use Rattle.rules.specs.Records.{used, head_count, slots_of}
use Rattle.rules.proofs.Search.{count_none, count-passes, count-fails, count-few}
use Rattle.heads.proofs.count.Goals as goal
use Rattle.heads.proofs.count.Goals.{then-is_used, else-is_used}

pub loop-k-init : goal.loop-k-init
loop-k-init c = sym (count_none _)

pub overflow_add-heads : goal.overflow_add-heads
overflow_add-heads c = omega (arith, c.loop-k.invariant, count-few (used c.args.tips.now) c.loop-k.k)

pub loop-k-preserved : goal.loop-k-preserved
loop-k-preserved c =
    let t = used c.args.tips.now in
    elim c.if-is_used.branch [
      | then-is_used w ↦ w.heads-is ∙ rw (count-passes t c.loop-k.k (sym c.is_used.ensures ∙ w.if-is_used.true), ← c.loop-k.invariant)
      | else-is_used w ↦ w.heads-is ∙ rw (count-fails t c.loop-k.k (sym c.is_used.ensures ∙ w.if-is_used.false)) c.loop-k.invariant
    ]

pub returns : goal.returns
unfolding head_count
returns c =
    let e : c.loop-k.k ≡ slots_of c.args.tips.now = omega (arith, c.slots-k-end.ensures) in
    rw (← e) c.loop-k.invariant
