-- The blocks before `i` are done, and the parents are named.
use mathlib.Core.Path.{◌≡◌}
use lib.ListN.{length}
use Rattle.rules.specs.Records.{tables_of}
use Rattle.rules.specs.Rebuild.{rebuilt_below}
use Rattle.named_parents.specs.Named.{named_parents}
use Rattle.rebuild.proofs.rebuild_heads.Given as goal

abbrev pub invariant-loop-i : goal.invariant-loop-i
invariant-loop-i l = record {
  tables : tables_of l.hashes l.parents l.sequences l.counts l.flags l.tips l.tails l.missing l.requested l.arrivals l.connected
      ≡ rebuilt_below l.i (tables_of l.fn.hashes l.fn.parents l.fn.sequences l.fn.counts l.fn.flags
      l.fn.tips l.fn.tails l.fn.missing l.fn.requested l.fn.arrivals l.fn.connected) l.arrival l.active.0;
  names : l.named ≡ named_parents l.parents l.sequences (length l.named);
}
