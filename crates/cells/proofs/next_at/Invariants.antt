-- None of the slots from `from` to before `first` holds the value.
use Prim.Native.Nat.{◌-◌}
use Rattle.rules.specs.Records.{slots_of}
use Rattle.cells.proofs.Places.{Differ}
use Rattle.cells.proofs.next_at.Given as goal

abbrev pub invariant-loop-first : goal.invariant-loop-first
invariant-loop-first l = Differ l.words l.from l.value l.first

abbrev pub decreases-loop-first : goal.decreases-loop-first
decreases-loop-first l = slots_of l.words - l.first
