-- The slots before `i` are done.
use mathlib.Core.Path.{◌≡◌}
use Rattle.rules.specs.Common.{in_order}
use Rattle.recount.specs.Passes.{raise_count}
use Rattle.recount.proofs.raise_counts.Given as goal

abbrev pub invariant-loop-i : goal.invariant-loop-i
invariant-loop-i l = l.counts ≡ in_order (raise_count l.sequences) l.i l.initial.counts
