-- The slots before `i` of the subtree are listed, and what is remembered is right.
use Prim.Native.Nat.{◌≤◌}
use mathlib.Core.Path.{◌≡◌}
use lib.ListN.{length}
use lib.Seq.{sets}
use Rattle.rules.specs.Common.{all_below}
use Rattle.rules.specs.BlockTable.{in_subtree}
use Rattle.subtree.specs.Known.{Right}
use Rattle.subtree.proofs.mark_known.Given as goal

abbrev pub invariant-loop-i : goal.invariant-loop-i
invariant-loop-i l = (l.count ≤ l.i) × (Right l.parents l.sequences l.root.0 l.initial.known → Right l.parents l.sequences l.root.0 l.known
    × (l.count ≡ length (all_below (in_subtree l.parents l.sequences l.root.0) l.i))
    × (l.out ≡ sets l.initial.out 0 (all_below (in_subtree l.parents l.sequences l.root.0) l.i)))
