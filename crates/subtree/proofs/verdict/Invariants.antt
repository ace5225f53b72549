-- What is left to try from the present slot decides, and where something is known the present slot tells as much as the first.
use Prim.Native.Nat.{◌<◌, ◌-◌}
use mathlib.Core.Path.{◌≡◌}
use Rattle.rules.specs.Records.{NONE, slots_of}
use Rattle.rules.specs.BlockTable.{reaches}
use Rattle.subtree.specs.Known.{Right}
use Rattle.subtree.proofs.verdict.Given as goal

abbrev pub invariant-loop : goal.invariant-loop
invariant-loop l =
    (reaches l.parents l.sequences l.root.0 l.end l.initial.current.0
    ≡ reaches l.parents l.sequences l.root.0 (l.end - l.counter) l.current.0)
    × (Right l.parents l.sequences l.root.0 l.known → l.initial.current.0 < slots_of l.sequences
    → (l.current.0 < NONE) × (reaches l.parents l.sequences l.root.0 (slots_of l.sequences) l.initial.current.0
    ≡ reaches l.parents l.sequences l.root.0 (slots_of l.sequences) l.current.0))
