-- What is left to visit from the present block decides.
use Rattle.std.proofs.Common.{◌≡◌, ◌-◌}
use Rattle.rules.specs.Anchor.{anchor_from, locate_anchor}
use Rattle.anchor.proofs.locate_by_total_reads.Given as goal

abbrev pub invariant-loop : goal.invariant-loop
invariant-loop l =
    anchor_from l.parents l.sequences l.flags (l.end - l.counter) l.last.0 l.current.0
    ≡ locate_anchor l.parents l.sequences l.flags l.fn.start.0
