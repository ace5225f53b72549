-- `differ` tells of the slots before `j`.
use Prim.Native.Nat.{ℕ, ◌<◌, ◌+◌}
use mathlib.Core.Path.{◌≡◌}
use mathlib.Core.Logic.{◌≢◌}
use mathlib.Core.Bool.{true}
use lib.ListN.{get_or}
use Rattle.rules.specs.Records.{NONE}
use Rattle.cells.proofs.eight_differ.Given as goal

abbrev pub invariant-loop-j : goal.invariant-loop-j
invariant-loop-j l = l.differ ≡ true → (i : ℕ) → i < l.j → get_or l.words (l.from + i) NONE ≢ l.value
