-- Byte after byte.
use native.Mathlib.Omega.{arith}
use Rattle.trial_lines.proofs.Joined.{leaves-first, leaves-more, leaves-whole}
use Rattle.trial_lines.proofs.chunks.TakesBytes.take_chunk.Goals as goal

pub loop-byte-init : goal.loop-byte-init
loop-byte-init g c = leaves-first g.Self.TakesBytes.one _ _

pub loop-byte-preserved : goal.loop-byte-preserved
loop-byte-preserved g c =
    leaves-more g.Self.TakesBytes.one _ _ _ _ _ _ _ c.loop-byte.byte-index c.loop-byte-test.true c.loop-byte.invariant c.take_byte.ensures

pub returns : goal.returns
returns g c =
    leaves-whole g.Self.TakesBytes.one _ _ _ _ c.args.chunk.now c.min.result c.loop-byte.byte-index (omega arith) (omega arith) c.loop-byte.invariant
