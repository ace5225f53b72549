-- What is left to visit from the present block.
use Prim.Native.Nat.{◌-◌}
use mathlib.Core.Path.{◌≡◌}
use Rattle.rules.specs.Records.{blocks_of}
use Rattle.rules.specs.Eviction.{evict_from}
use Rattle.eviction.proofs.evict_from.Given as goal

abbrev pub invariant-loop : goal.invariant-loop
invariant-loop l =
    evict_from l.end (blocks_of l.fn.hashes l.fn.parents l.fn.sequences l.fn.counts l.fn.flags) l.fn.tip.0
    ≡ evict_from (l.end - l.counter) (blocks_of l.hashes l.parents l.sequences l.counts l.flags) l.current.0
