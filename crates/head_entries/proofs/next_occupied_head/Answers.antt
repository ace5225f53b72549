-- The lowest of the range that is in use.
use Rattle.std.proofs.Common.{rules, ◌≡◌}
use borrow.Author.Tests.{tests}
use Rattle.rules.specs.Answers.{head_found}
use Rattle.rules.specs.Caches.{next_used, next_head}
use Rattle.rules.proofs.Ranges.{find-from}
use Rattle.head_entries.proofs.next_occupied_head.Goals as goal

pub returns : goal.returns
unfolding next_head
returns c =
    let e : head_found c.find.result ≡ next_used c.args.tips.now c.args.from.0 =
    unfold next_used in
    find-from _ _ _ _ c.slots.ensures c.map.ensures.source c.find.ensures.ran (λ x y q k. search rules)
    (λ x b q k. search (rules, tests)) in
    rw (← e, next_head) (search rules)
