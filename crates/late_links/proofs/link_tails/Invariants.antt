-- The heads before `k` are done.
use Rattle.std.proofs.Common.{◌≡◌}
use Rattle.rules.specs.Common.{in_order}
use Rattle.rules.specs.Records.{tables_of}
use Rattle.rules.specs.Admission.{link_late}
use Rattle.late_links.proofs.link_tails.Given as goal

abbrev pub invariant-loop-k : goal.invariant-loop-k
invariant-loop-k l =
    tables_of l.hashes l.parents l.sequences l.counts l.flags l.tips l.tails l.missing l.requested l.arrivals l.connected
    ≡ in_order (link_late l.block.0 l.sequence.0 l.hash) l.k
    (tables_of l.hashes l.initial.parents l.sequences l.initial.counts l.flags l.initial.tips l.initial.tails l.initial.missing
    l.initial.requested l.initial.arrivals l.initial.connected)
