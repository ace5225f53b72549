-- The lowest of the range that waits at this tail.
use Rattle.std.proofs.Common.{rules, refl, ◌≡◌}
use borrow.Author.Tests.{tests}
use Rattle.rules.specs.Common.{lowest}
use Rattle.rules.specs.Records.{slots_of}
use Rattle.rules.specs.Answers.{head_found}
use Rattle.rules.specs.Caches.{waits_at, knowing}
use Rattle.rules.proofs.Ranges.{find-mapped}
use Rattle.missing_hashes.proofs.knowing_by_head.Goals as goal

pub returns : goal.returns
unfolding knowing
returns c =
    let a = c.args in
    let e : head_found c.find.result ≡ lowest (waits_at a.tips.now a.tails.now a.connected.now a.tail.0) (slots_of a.tips.now) =
    find-mapped _ _ _ _ c.slots.ensures c.map.ensures.source c.find.ensures.ran (λ x y q k. search rules)
    (λ x b q k. search (rules, tests)) refl in
    rw (← e, knowing) (search rules)
