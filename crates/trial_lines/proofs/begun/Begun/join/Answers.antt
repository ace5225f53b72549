-- A byte that has room is joined; of one that has none the line is too long, and stays so.
use Rattle.std.proofs.Common.{rules, ◌≡◌, ap, sym, ◌∙◌, arith}
use Rattle.trial_lines.specs.Begun.{longer}
use Rattle.trial_lines.proofs.Padded.{both-kept, past-line, joined, joined-kept, full}
use Rattle.trial_lines.proofs.begun.Begun.join.Goals as goal

pub invariant_of-self : goal.invariant_of-self
invariant_of-self c =
    let b = c.self.inside in
    let kept = joined-kept b.bytes b.count c.args.byte (both-kept b c.self.invariant) c.if-self-lt-MOST.true in
    rw (kept.0, kept.1)

pub returns-then-self-lt-MOST : goal.returns-then-self-lt-MOST
returns-then-self-lt-MOST c =
    let b = c.self.inside in
    joined b.bytes b.count c.args.byte (both-kept b c.self.invariant) c.if-self-lt-MOST.true
    ∙ ap (λ begun. longer begun c.args.byte) c.self.view_is

pub returns-then-self-eq-MOST : goal.returns-then-self-eq-MOST
returns-then-self-eq-MOST c =
    let b = c.self.inside in
    c.self-then-self-eq-MOST.view_is ∙ c.too_long.ensures
    ∙ sym (full b.bytes b.count c.args.byte (both-kept b c.self.invariant) c.if-self-lt-MOST.false)
    ∙ ap (λ begun. longer begun c.args.byte) c.self.view_is

pub returns-else-self-eq-MOST : goal.returns-else-self-eq-MOST
returns-else-self-eq-MOST c =
    let b = c.self.inside in
    sym c.self.view_is ∙ past-line b.bytes b.count (omega (arith, c.if-self-eq-MOST.false))
    ∙ sym (full b.bytes b.count c.args.byte (both-kept b c.self.invariant) c.if-self-lt-MOST.false)
    ∙ ap (λ begun. longer begun c.args.byte) c.self.view_is
