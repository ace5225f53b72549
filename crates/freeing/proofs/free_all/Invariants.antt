-- What is left to free.
use mathlib.Core.Path.{◌≡◌}
use lib.ListN.{drop}
use Rattle.rules.specs.Records.{blocks_of}
use Rattle.rules.specs.Removal.{free_all}
use Rattle.freeing.proofs.free_all.Given as goal

abbrev pub invariant-loop-slot : goal.invariant-loop-slot
invariant-loop-slot l =
    free_all (drop l.slot-index l.deleted) (blocks_of l.hashes l.parents l.sequences l.counts l.flags)
    ≡ free_all l.deleted (blocks_of l.initial.hashes l.initial.parents l.initial.sequences l.initial.counts l.initial.flags)
