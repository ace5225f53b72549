-- Both ways through a fresh, over any state.
use mathlib.Core.Path.{◌≡◌}
use mathlib.Core.Bool.{true, false}
use Rattle.rules.specs.Records.{NONE, Blocks, Heads, blocks_emptied, heads_emptied}
use Rattle.rules.specs.Answers.{refused, done}
use Rattle.rules.specs.Calls.{State, shaped, blocks_in, heads_in, fresh_state, fresh, Sets}
use Rattle.rules.proofs.Does.{sets, refuses-set}
use Rattle.empties.proofs.Empties.{blocks-empty, heads-empty}

module _ (s : State) where
  pub misshapen : shaped s.tables ≡ false → Sets (refused 1) s.active_head s.tables (fresh s)
  unfolding fresh
  misshapen e = refuses-set (rw e)

  pub emptied : (b : Blocks) (h : Heads) → shaped s.tables ≡ true → b ≡ blocks_emptied s.tables.blocks → h ≡ heads_emptied s.tables.heads
      → Sets done NONE (record { blocks = b; heads = h }) (fresh s)
  unfolding fresh fresh_state
  emptied b h e p q = sets (fresh_state (blocks_in s.tables) (heads_in s.tables)) (rw e) (rw (p, q, blocks-empty s.tables e, heads-empty s.tables e))
