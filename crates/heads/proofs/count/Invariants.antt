-- The heads before `k` in use are counted.
use mathlib.Core.Path.{◌≡◌}
use Rattle.rules.specs.Common.{count_below}
use Rattle.rules.specs.Records.{used}
use Rattle.heads.proofs.count.Given as goal

abbrev pub invariant-loop-k : goal.invariant-loop-k
invariant-loop-k l = l.heads ≡ count_below (used l.tips) l.k
