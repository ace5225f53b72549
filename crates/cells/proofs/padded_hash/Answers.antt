-- The bytes before `k` are read.
use native.Mathlib.Omega.{arith}
use Rattle.rules.proofs.Hashes.{hash-is}
use Rattle.cells.proofs.padded_hash.Goals as goal

pub returns : goal.returns
returns c = hash-is c.args.bytes.now c.loop-k.hash c.args.at c.loop-k.invariant.0 (λ k lt. c.loop-k.invariant.1 k (omega arith))
