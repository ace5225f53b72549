-- The heads before `k` are done.
use Rattle.std.proofs.Common.{◌≡◌}
use Rattle.rules.specs.Common.{in_order}
use Rattle.rules.specs.Records.{blocks_of, heads_of}
use Rattle.rules.specs.Admission.{refresh_outgrown}
use Rattle.tail_refresh.proofs.refresh_tails.Given as goal

abbrev pub invariant-loop-k : goal.invariant-loop-k
invariant-loop-k l =
    heads_of l.tips l.tails l.missing l.requested l.arrivals l.connected
    ≡ in_order (refresh_outgrown (blocks_of l.hashes l.parents l.sequences l.counts l.flags)) l.k
    (heads_of l.tips l.initial.tails l.initial.missing l.initial.requested l.arrivals l.initial.connected)
