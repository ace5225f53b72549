-- What is counted, with what is left, is the whole; it ends, as a level is left behind or a lower sibling comes.
use mathlib.Core.List.{List}
use Prim.Native.Nat.{ℕ, ◌+◌, ◌*◌, ◌≤◌}
use Rattle.rules.specs.Calls.{max_blocks}
use Rattle.under_call.specs.Lists.{Placed}
use Rattle.under_call.proofs.Down.{Going, rank}
use Rattle.under_call.proofs.+go_down.Given as goal

abbrev pub decreases-go_down : goal.decreases-go_down
decreases-go_down l = l.levels

abbrev pub invariant-loop-left : goal.invariant-loop-left
invariant-loop-left l = (l.left ≤ l.levels)
    × ((parents : List ℕ) → Placed parents l.sequences l.first l.next l.fn.from.0
    → Going parents l.sequences l.first l.next l.levels l.fn.from.0 l.left l.child.0 l.blocks l.highest.0)

abbrev pub decreases-loop-left : goal.decreases-loop-left
decreases-loop-left l = l.left * (max_blocks + 1) + rank l.child.0
