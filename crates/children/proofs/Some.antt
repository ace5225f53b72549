-- Some passes exactly where the count is not 0.
use mathlib.Core.Path.{◌≡◌, refl}
use mathlib.Core.Bool.{Bool, not}
use mathlib.Core.List.{List, [], ◌∷◌}
use Rattle.std.specs.List.{filter, list_any, range_with_len}
use Prim.Native.Nat.{ℕ}
use native.Mathlib.Omega.{arith}
use lib.Dec.{eqb}
use lib.ListN.{length}
use Rattle.rules.specs.Common.{count_below}
use Rattle.rules.proofs.Ranges.{count-filter}

module _ (test : ℕ → Bool) where
  any-filter : (l : List ℕ) → list_any test l ≡ not (eqb (length (filter test l)) 0)
  any-filter [] = refl
  any-filter (x ∷ l) = grind (arith, any-filter l)

  pub any-counted : (n : ℕ) → list_any test (range_with_len 0 n) ≡ not (eqb (count_below test n) 0)
  any-counted n = rw count-filter (any-filter (range_with_len 0 n))
