-- The best of the heads that may ask, held with its request time.
use Rattle.std.proofs.Common.{ℕ, ◌∙◌, rules, tests, refl, arith}
use Rattle.std.proofs.lemmas.Iterator.{YieldsList-from_range, YieldsList-from_map_by}
use Rattle.std.proofs.lemmas.Iterator.Adapters.{option_map_id}
use Rattle.rules.specs.Records.{slots_of, requested_at}
use Rattle.rules.specs.Timer.{may_ask, asks_before, chosen}
use Rattle.rules.specs.declared.HeadSlot.{HeadSlot}
use Rattle.rules.proofs.Reduced.{folded-best, held-map}
use Rattle.timer.proofs.chosen.Goals as goal

pub returns : goal.returns
unfolding chosen asks_before
returns c =
    let a = c.args in
    let n = slots_of a.tips.now in
    let may = may_ask a.sequences.now a.tips.now a.requested.now a.connected.now a.clock a.retry in
    let before = asks_before a.hashes.now a.sequences.now a.tips.now a.requested.now in
    let slot = λ (head : HeadSlot). head.0 in
    let held : ℕ → ℕ × HeadSlot = λ k. (requested_at a.requested.now k, record { 0 = k }) in
    let numbers = YieldsList-from_range 0 c.slots.result n c.map.ensures.source (omega arith) in
    held-map _ held slot (λ k. k) _ c.map-2.result (folded-best may before slot held n c.fold.result c.fold.ensures.ran
    (YieldsList-from_map_by _ slot (λ k. k) numbers refl (λ x y q k. search rules))
    (λ x b q k. search (rules, tests)) (λ i x b q k. search (rules, tests)))
    c.map-2.ensures.cases (λ k y p. search rules) ∙ option_map_id _
