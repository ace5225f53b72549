-- Byte after byte.
use lib.ListN.{take}
use Rattle.trial_lines.specs.Fed.{Leaves, fed}
use Rattle.trial_lines.proofs.chunks.TakesBytes.take_chunk.Given as goal

abbrev pub invariant-loop-byte : goal.invariant-loop-byte
invariant-loop-byte g l =
    let taker = g.Self.TakesBytes in
    Leaves (fed taker.one (taker.shown l.initial.self) (take l.byte-index l.byte-items)) l.initial.page (taker.shown l.self) l.page
