-- The bytes before `k` agree.
use mathlib.Core.Path.{◌≡◌}
use lib.ListN.{drop}
use Rattle.rules.specs.Hashes.{hash_less}
use Rattle.cells.proofs.hash_less.Given as goal

abbrev pub invariant-loop-k : goal.invariant-loop-k
invariant-loop-k l = hash_less l.a l.b ≡ hash_less (drop l.k l.a) (drop l.k l.b)
