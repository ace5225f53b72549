-- The lowest of the range that lost its tip.
use Rattle.std.proofs.Common.{rules, refl}
use Rattle.rules.proofs.Ranges.{find-mapped}
use Rattle.heirs.proofs.first_freed.Goals as goal

pub returns : goal.returns
returns c =
    find-mapped _ _ _ _ c.slots.ensures c.map.ensures.source c.find.ensures.ran
    (λ x y q k. search rules) (λ x b q k. search rules) refl
