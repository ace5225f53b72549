-- What is left to try from the present block decides.
use Prim.Native.Nat.{◌-◌}
use mathlib.Core.Path.{◌≡◌}
use Rattle.rules.specs.BlockTable.{walks_to_active}
use Rattle.blocks.proofs.walks_to_active_chain.Given as goal

abbrev pub invariant-loop : goal.invariant-loop
invariant-loop l =
    walks_to_active l.parents l.sequences l.flags l.end l.initial.current.0
    ≡ walks_to_active l.parents l.sequences l.flags (l.end - l.counter) l.current.0
