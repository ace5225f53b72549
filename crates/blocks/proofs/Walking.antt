-- What a visit of the walk to the active chain finds, with so many tries of n spent.
use mathlib.Core.Path.{◌≡◌}
use mathlib.Core.Logic.{◌≢◌}
use mathlib.Core.Bool.{true, false}
use mathlib.Core.List.{List}
use Prim.Native.Nat.{ℕ, suc, ◌+◌, ◌-◌, ◌<◌}
use native.Mathlib.Omega.{arith}
use Rattle.rules.specs.Records.{NONE, parent_at, occupied, active}
use Rattle.rules.specs.BlockTable.{walks_to_active}
use Rattle.rules.proofs.Walks.{active-spent, active-empty, active-here, active-end, active-up}

pub active-next : (parents sequences flags : List ℕ) (n spent i : ℕ) → spent < n
    → occupied sequences i ≡ true → active flags i ≡ false → parent_at parents i ≢ NONE
    → walks_to_active parents sequences flags (n - spent) i
    ≡ walks_to_active parents sequences flags (n - (spent + 1)) (parent_at parents i)
active-next parents sequences flags n spent i l o a e =
    let same : n - spent ≡ suc (n - (spent + 1)) = omega arith in rw same (active-up parents sequences flags (n - (spent + 1)) i o a e)

pub ruleset visits = (active-spent, active-empty, active-here, active-end, active-next)
