-- What is remembered stays right, and the present slot tells as much as the first.
use Prim.Native.Nat.{◌<◌}
use mathlib.Core.Path.{◌≡◌}
use Rattle.rules.specs.Records.{NONE, slots_of}
use Rattle.rules.specs.BlockTable.{reaches}
use Rattle.subtree.specs.Known.{tells, Right}
use Rattle.subtree.proofs.remember.Given as goal

abbrev pub invariant-loop : goal.invariant-loop
invariant-loop l = Right l.parents l.sequences l.root.0 l.initial.known → l.initial.current.0 < slots_of l.sequences
    → reaches l.parents l.sequences l.root.0 (slots_of l.sequences) l.initial.current.0 ≡ tells l.verdict
    → (l.current.0 < NONE) × (reaches l.parents l.sequences l.root.0 (slots_of l.sequences) l.current.0 ≡ tells l.verdict)
    × Right l.parents l.sequences l.root.0 l.known
