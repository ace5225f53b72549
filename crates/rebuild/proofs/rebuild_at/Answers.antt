-- By whether the block is an end, and whether the head table was full.
use Rattle.std.proofs.Common.{rules}
use Rattle.std.specs.Prelude.{is_some}
use mathlib.Core.Path.{◌≡◌, sym, ◌∙◌}
use mathlib.Core.Bool.{true}
use Rattle.rules.specs.Admission.{first_empty}
use Rattle.rules.specs.Rebuild.{rebuild_at}
use Rattle.rebuild.proofs.Insert.{names-stay}
use Rattle.named_parents.proofs.Named.{named_end}
use Rattle.rebuild.proofs.rebuild_at.Goals as goal

pub returns-then-full : goal.returns-then-full
unfolding rebuild_at
returns-then-full c q =
    let e = sym (c.is_end.ensures ∙ named_end _ _ _ c.args.slot.0 q) ∙ c.if-is_end.true in
    (rw e c.insert_head.ensures, c.name_parents.ensures)

pub returns-else-full : goal.returns-else-full
unfolding rebuild_at
returns-else-full c q =
    let e = sym (c.is_end.ensures ∙ named_end _ _ _ c.args.slot.0 q) ∙ c.if-is_end.true in
    let f : is_some (first_empty c.args.tips.now) ≡ true = search rules in
    (rw e c.insert_head.ensures, names-stay _ _ _ _ _ _ _ _ c.insert_head.ensures f q)

pub returns-else-is_end : goal.returns-else-is_end
unfolding rebuild_at
returns-else-is_end c q =
    let e = sym (c.is_end.ensures ∙ named_end _ _ _ c.args.slot.0 q) ∙ c.if-is_end.false in
    (rw e, q)
