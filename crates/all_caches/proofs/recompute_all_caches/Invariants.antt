-- The heads before `k` are done.
use Rattle.std.proofs.Common.{◌≡◌}
use Rattle.rules.specs.Common.{in_order}
use Rattle.rules.specs.Records.{caches_of}
use Rattle.rules.specs.Caches.{recompute_used}
use Rattle.all_caches.proofs.recompute_all_caches.Given as goal

abbrev pub invariant-loop-k : goal.invariant-loop-k
invariant-loop-k l =
    caches_of l.tails l.missing l.requested l.connected
    ≡ in_order (recompute_used l.parents l.sequences l.flags l.tips) l.k
    (caches_of l.initial.tails l.initial.missing l.initial.requested l.initial.connected)
