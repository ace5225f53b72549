-- When the head of least request time is due.
use Rattle.std.proofs.Common.{sym, ◌∙◌, rules, tests, refl, arith}
use Rattle.std.proofs.lemmas.Iterator.{YieldsList-from_range, YieldsList-from_map_by}
use Rattle.std.proofs.lemmas.Iterator.Adapters.{option_map_id}
use Rattle.rules.specs.Records.{slots_of, stored, requested_at}
use Rattle.rules.specs.Timer.{due, due_first, deadline}
use Rattle.rules.specs.declared.HeadSlot.{HeadSlot}
use Rattle.rules.proofs.Reduced.{folded-best, held-map}
use Rattle.timer.proofs.Best.{sooner, due-least}
use Rattle.timer.proofs.earliest_recovery_deadline.Goals as goal

pub returns : goal.returns
unfolding deadline due_first
returns c =
    let a = c.args in
    let n = slots_of a.tips.now in
    let is_stored = stored a.tips.now a.connected.now in
    let time = requested_at a.requested.now in
    let slot = λ (head : HeadSlot). head.0 in
    let numbers = YieldsList-from_range 0 c.slots.result n c.map.ensures.source (omega arith) in
    sym (option_map_id c.map-2.result) ∙ held-map _ time (λ t. t) (λ k. due (time k) a.retry) _ c.map-2.result
    (folded-best is_stored (sooner time) slot time n c.fold.result c.fold.ensures.ran
    (YieldsList-from_map_by _ slot (λ k. k) numbers refl (λ x y q k. search rules))
    (λ x b q k. search (rules, tests)) (λ i x b q k. search (rules, tests, arith)))
    c.map-2.ensures.cases (λ k y p. search rules) ∙ due-least time a.retry is_stored n
