-- Demand 3, whole: the promises of specs/Promises.antt hold after every list of calls from what an accepted fresh left.
use mathlib.Core.Path.{refl}
use mathlib.Core.Logic.{inl}
use mathlib.Core.List.{List, []}
use Prim.Native.Nat.{ℕ, ◌≤◌}
use native.Mathlib.Omega.{arith}
use Rattle.rules.specs.Records.{NONE, empty_blocks, empty_heads}
use Rattle.rules.specs.Calls.{Call, shaped, blocks_in, heads_in, fresh_state, fresh, max_blocks, min_heads, max_heads}
use Rattle.rules.specs.Promises.{Occupied, Active, Sound, Recorded, Promise, Demand3}
use Rattle.rules.proofs.Splits.{split}
use Rattle.rules.proofs.Kept.Table.{ne-occupied}
use Rattle.rules.proofs.Kept.Frame.{Good, All}
use Rattle.rules.proofs.Kept.Empty.{no_block, none-held, empty-shape, no-head, none-used, empty-room}
use Rattle.rules.proofs.Kept.Walked.{active_on}
use Rattle.rules.proofs.Kept.Border.{good-sound}
use Rattle.rules.proofs.Kept.Went.{chain-occupied}
use Rattle.rules.proofs.Kept.Lists.{none-promoted, list-promise}
use Rattle.rules.proofs.Kept.Shaped.{shaped-shape}

module _ (n m : ℕ) (some : 1 ≤ n) (small : n ≤ max_blocks) (two : min_heads ≤ m) (few : m ≤ max_heads) where
  fresh-good : Good (empty_blocks n) (empty_heads m) NONE All
  fresh-good = record {
    frame = record {
      counts = record { shape = empty-shape n some small; linked = λ i o. absurd (none-held n i o); counted = λ i o _. absurd (none-held n i o) };
      voids = λ i _. no_block n i;
      roomy = empty-room m two few;
      blanks = λ k _. no-head m k;
      tips = λ k u. absurd (none-used m k u);
      apart = λ k _ u _ _. absurd (none-used m k u);
      covered = λ i _ o _ _. absurd (none-held n i o);
      chained = λ i o _ _. absurd (none-held n i o);
    };
    anchored = λ k u. absurd (none-used m k u);
  }

  nothing-held : (i : ℕ) → Occupied (fresh_state n m) i → ⊥
  unfolding fresh_state
  nothing-held i o = none-held n i (ne-occupied (empty_blocks n) i o)

  nothing-active : (i : ℕ) → Active (fresh_state n m) i → ⊥
  unfolding fresh_state
  nothing-active i a = none-held n i (chain-occupied (empty_blocks n) i (λ i _. no_block n i) (active_on (fresh_state n m) i a))

  fresh-sound : Sound (fresh_state n m)
  unfolding fresh_state
  fresh-sound = good-sound (fresh_state n m) fresh-good (λ i a. absurd (nothing-active i a)) (inl refl) (λ i j o _ _. absurd (nothing-held i o))

  fresh-recorded : Recorded [] (fresh_state n m)
  fresh-recorded = record {
    promoted = λ i. (λ a. absurd (nothing-active i a), λ p. absurd (none-promoted i [] refl p));
    admitted = λ i o. absurd (nothing-held i o);
  }

  -- for every n and m in range
  pub from-fresh : (calls : List Call) → Promise [] (fresh_state n m) calls
  from-fresh calls = list-promise [] (fresh_state n m) fresh-sound fresh-recorded calls

pub demand-3 : Demand3
unfolding fresh
demand-3 s a calls = split (shaped s.tables)
    (λ e.
    let (sh, ro) = shaped-shape s.tables e in
    let p = sh.parents in
    let one = sh.some in
    let many = sh.small in
    rw e (from-fresh (blocks_in s.tables) (heads_in s.tables) (omega arith) (omega arith) ro.two ro.few calls))
    (λ e. absurd (a 1 (rw e refl)))
