-- The next head with the tip.
use Rattle.std.proofs.Common.{rules, refl}
use Rattle.cells.proofs.Places.{next-lowest}
use Rattle.heads.proofs.head_with.Goals as goal

pub returns : goal.returns
returns c = rw (← next-lowest c.args.tips.now c.args.tip.0 _ (λ j. refl)) (search rules)
