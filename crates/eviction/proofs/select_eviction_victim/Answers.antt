-- The best of the heads that may go, held with its tip's sequence.
use Rattle.std.proofs.Common.{ℕ, ◌∙◌, rules, tests, refl, arith}
use Rattle.std.proofs.lemmas.Iterator.{YieldsList-from_range, YieldsList-from_map_by}
use Rattle.std.proofs.lemmas.Iterator.Adapters.{option_map_id}
use Rattle.rules.specs.Records.{slots_of, tip_at, sequence_at}
use Rattle.rules.specs.Eviction.{block_before, may_go, victim}
use Rattle.rules.specs.declared.HeadSlot.{HeadSlot}
use Rattle.rules.specs.declared.Sequence.{Sequence}
use Rattle.rules.proofs.Reduced.{folded-best, held-map}
use Rattle.eviction.proofs.select_eviction_victim.Goals as goal

pub returns : goal.returns
unfolding victim block_before
returns c =
    let a = c.args in
    let n = slots_of a.tips.now in
    let may = may_go a.sequences.now a.tips.now a.active.0 in
    let before = λ (j k : ℕ). block_before a.hashes.now a.sequences.now (tip_at a.tips.now j) (tip_at a.tips.now k) in
    let slot = λ (head : HeadSlot). head.0 in
    let held : ℕ → Sequence × HeadSlot = λ k. (record { 0 = sequence_at a.sequences.now (tip_at a.tips.now k) }, record { 0 = k }) in
    let numbers = YieldsList-from_range 0 c.slots.result n c.map.ensures.source (omega arith) in
    held-map _ held slot (λ k. k) _ c.map-2.result (folded-best may before slot held n c.fold.result c.fold.ensures.ran
    (YieldsList-from_map_by _ slot (λ k. k) numbers refl (λ x y q k. search rules))
    (λ x b q k. search (rules, tests)) (λ i x b q k. search (rules, tests)))
    c.map-2.ensures.cases (λ k y p. search rules) ∙ option_map_id _
