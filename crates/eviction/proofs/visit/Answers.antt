-- What the count says, and the flag.
use mathlib.Core.Path.{sym, ◌∙◌}
use Rattle.eviction.proofs.Walk.{visit-empty, visit-stops, visit-frees}
use Rattle.eviction.proofs.visit.Goals as goal

pub returns-in_err-count : goal.returns-in_err-count
returns-in_err-count c =
    rw c.from_residual.ensures
    (visit-empty _ _ _ c.adjust_head_ref_count.ensures.1 (sym c.in_err-count.was ∙ c.adjust_head_ref_count.ensures.0))

pub returns-then-kept : goal.returns-then-kept
returns-then-kept c =
    visit-stops _ _ _ c.adjust_head_ref_count.ensures.1 (sym c.in_ok-count.was ∙ c.adjust_head_ref_count.ensures.0)
    c.is_on_active_chain-kept.ensures c.then-kept.either

pub returns : goal.returns
returns c =
    let v = visit-frees _ _ _ c.adjust_head_ref_count.ensures.1 (sym c.in_ok-count.was ∙ c.adjust_head_ref_count.ensures.0)
    c.is_on_active_chain-kept.ensures c.if-kept.false c.if-count-ne0.false in
    (rw c.cell_at.ensures v.0, c.delete.ensures.1 ∙ v.1)
