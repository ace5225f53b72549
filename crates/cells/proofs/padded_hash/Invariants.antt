-- The bytes before `k` are read.
use Prim.Native.Nat.{ℕ, ◌<◌, ◌+◌, ◌*◌}
use mathlib.Core.Path.{◌≡◌}
use lib.ListN.{length, get_or}
use Rattle.cells.proofs.padded_hash.Given as goal

abbrev pub invariant-loop-k : goal.invariant-loop-k
invariant-loop-k l = (length l.hash ≡ 32) × ((j : ℕ) → j < l.k → get_or l.hash j 0 ≡ get_or l.bytes (l.at * 32 + j) 0)
