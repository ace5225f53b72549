-- The slots before `i` are done.
use mathlib.Core.Path.{◌≡◌}
use Rattle.rules.specs.Common.{in_order}
use Rattle.recount.specs.Passes.{count_child}
use Rattle.recount.proofs.count_children.Given as goal

abbrev pub invariant-loop-i : goal.invariant-loop-i
invariant-loop-i l = l.counts ≡ in_order (count_child l.parents l.sequences) l.i l.initial.counts
