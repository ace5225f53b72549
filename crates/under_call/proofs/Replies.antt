-- Each way through the call, over any state.
use mathlib.Core.Path.{◌≡◌, refl}
use mathlib.Core.Bool.{true, false}
use Prim.Native.Nat.{ℕ, ◌≤◌}
use native.Mathlib.Omega.{arith}
use lib.ListN.{length}
use Rattle.rules.specs.Records.{Tables, slots_of, occupied}
use Rattle.rules.specs.Under.{hanging, highest}
use Rattle.rules.specs.Answers.{refused, hangs}
use Rattle.rules.specs.Calls.{State, max_blocks, shaped, under, Does}
use Rattle.rules.proofs.Does.{does, refuses}
use Rattle.rules.proofs.Kept.Table.{kids-slots}
use Rattle.rules.proofs.Kept.Shaped.{shaped-shape}

pub few-slots : (t : Tables) → shaped t ≡ true → slots_of t.blocks.sequences ≤ max_blocks
few-slots t e = let sh = (shaped-shape t e).0 in let small = sh.small in omega (arith, kids-slots t.blocks sh)

module _ (s : State) (root : ℕ) where
  pub misshapen : shaped s.tables ≡ false → Does (refused 1) s.tables (under s root)
  unfolding under
  misshapen e = refuses {s = s} (rw e)

  module _ (e : shaped s.tables ≡ true) where
    pub no_block : occupied s.tables.blocks.sequences root ≡ false → Does (refused 3) s.tables (under s root)
    unfolding under
    no_block o = refuses {s = s} (rw (e, o))

    pub counted : occupied s.tables.blocks.sequences root ≡ true → (blocks most : ℕ)
        → blocks ≡ length (hanging s.tables.blocks.parents s.tables.blocks.sequences root)
        → most ≡ highest s.tables.blocks.sequences (hanging s.tables.blocks.parents s.tables.blocks.sequences root)
        → Does (hangs blocks most) s.tables (under s root)
    unfolding under
    counted o blocks most n h = does s (rw (e, o, n, h)) refl
