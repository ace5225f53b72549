-- Both ways through a restart, over any state.
use mathlib.Core.Path.{◌≡◌, ◌∙◌}
use mathlib.Core.List.{List}
use mathlib.Core.Bool.{true, false}
use Prim.Native.Nat.{ℕ}
use Rattle.rules.specs.Records.{Heads, Tables, heads_emptied, with_counts}
use Rattle.rules.specs.Removal.{recount_all}
use Rattle.rules.specs.Rebuild.{rebuilt, restarted}
use Rattle.rules.specs.Answers.{refused, done}
use Rattle.rules.specs.Calls.{State, keeping, shaped, restart, Does}
use Rattle.rules.proofs.Does.{does, refuses}
use Rattle.empties.proofs.Empties.{heads-empty}

module _ (s : State) (now : ℕ) where
  pub misshapen : shaped s.tables ≡ false → Does (refused 1) s.tables (restart s now)
  unfolding restart
  misshapen e = refuses {s = s} (rw e)

  -- the heads are emptied, the counts set, the heads rebuilt
  pub rebuilt-anew : (counts : List ℕ) (h : Heads) (t : Tables) → shaped s.tables ≡ true → h ≡ heads_emptied s.tables.heads
      → counts ≡ recount_all s.tables.blocks.parents s.tables.blocks.sequences s.tables.blocks.counts
      → t ≡ rebuilt (record { blocks = with_counts s.tables.blocks counts; heads = h }) now s.active_head → Does done t (restart s now)
  unfolding restart restarted
  rebuilt-anew counts h t e q c r =
      let g = q ∙ heads-empty s.tables e in
      does (keeping s (restarted s.tables now s.active_head)) (rw e) (r ∙ rw (c, g))
