-- Each way through a promotion, over any state.
use mathlib.Core.Path.{◌≡◌}
use mathlib.Core.Bool.{true, false}
use Prim.Native.Nat.{ℕ}
use Rattle.rules.specs.Records.{Tables, occupied}
use Rattle.rules.specs.Promotion.{promoted}
use Rattle.rules.specs.Answers.{refused, done}
use Rattle.rules.specs.Calls.{State, shaped, is_next, promoted_to, promote, Sets}
use Rattle.rules.proofs.Does.{sets, refuses-set}

module _ (s : State) (i : ℕ) where
  pub misshapen : shaped s.tables ≡ false → Sets (refused 1) s.active_head s.tables (promote s i)
  unfolding promote
  misshapen e = refuses-set (rw e)

  module _ (e : shaped s.tables ≡ true) where
    pub no_block : occupied s.tables.blocks.sequences i ≡ false → Sets (refused 3) s.active_head s.tables (promote s i)
    unfolding promote
    no_block o = refuses-set (rw (e, o))

    module _ (o : occupied s.tables.blocks.sequences i ≡ true) where
      pub not-next : is_next s.tables.blocks.parents s.active_head i ≡ false → Sets (refused 8) s.active_head s.tables (promote s i)
      unfolding promote
      not-next n = refuses-set (rw (e, o, n))

      pub raised : (t : Tables) → is_next s.tables.blocks.parents s.active_head i ≡ true → t ≡ promoted s.tables i → Sets done i t (promote s i)
      unfolding promote
      raised t n r = sets (promoted_to s i) (rw (e, o, n)) r
