-- The blocks before `i` have named their parents.
use mathlib.Core.Path.{◌≡◌}
use lib.ListN.{length, replicate}
use Rattle.rules.specs.Common.{in_order}
use Rattle.named_parents.specs.Named.{name_parent}
use Rattle.named_parents.proofs.name_parents.Given as goal

abbrev pub invariant-loop-i : goal.invariant-loop-i
invariant-loop-i l = l.named ≡ in_order (name_parent l.parents l.sequences) l.i (replicate (length l.fn.named) 0)
