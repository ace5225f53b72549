-- The higher of two sequences, by their numbers.
use mathlib.Core.Path.{◌≡◌}
use Prim.Native.Nat.{max}
use native.Mathlib.Omega.{arith}
use Rattle.std.specs.Ordering.{nat_cmp, ord_max}
use Rattle.std.proofs.lemmas.Bool.Decides.{nat_tests}
use Rattle.rules.specs.declared.Sequence.{Sequence}

pub higher : (a b r : Sequence) → r ≡ ord_max (λ x y. nat_cmp x.0 y.0) a b → r.0 ≡ max a.0 b.0
higher a b r e = grind (arith, nat_tests)
