-- The marked values of 01, all of them: one test that is computed over the whole table, and what it says of each row.
use mathlib.Core.Path.{◌≡◌, refl}
use mathlib.Core.Bool.{true}
use mathlib.Core.Logic.{inl, inr}
use mathlib.Core.List.Memᴰ
use mathlib.Core.List.{List, [], ◌∷◌, Memᴰ}
use lib.Dec.{eqb}
use borrow.Author.Tests.{eqb-true}
use Rattle.rules.specs.Common.{lowest}
use Rattle.rules.specs.Hashes.{same_hash}
use Rattle.rules.specs.Records.{slots_of, occupied, status_of, empty_blocks, empty_heads, blocks_fit, heads_fit}
use Rattle.rules.specs.BlockTable.{is_block, find, next_free, adjusted}
use Rattle.rules.specs.Timer.{due, claimed}
use Rattle.rules.specs.Calls.{shaped, fresh_state, fresh, admit}
use Rattle.rules.specs.Marked.{Mark, fresh_of, admit_of, marks, all_as_marked}
use Rattle.rules.proofs.Splits.{and-true}

all-as-marked : all_as_marked marks ≡ true
unfolding all_as_marked marks due adjusted status_of claimed fresh_of admit_of fresh fresh_state empty_blocks empty_heads shaped blocks_fit heads_fit admit find is_block next_free lowest slots_of occupied same_hash
all-as-marked = refl

each : (rows : List Mark) (row : Mark) → all_as_marked rows ≡ true → Memᴰ row rows → row.given ≡ row.marked
unfolding all_as_marked
each [] row e i = absurd (Memᴰ.not-nil i)
each (x ∷ rows) row e i =
    let p = and-true (eqb x.given x.marked) (all_as_marked rows) e in
    elim (Memᴰ.cases_cons i) [
      | inl q ↦ rw q (eqb-true x.given x.marked p.0)
      | inr m ↦ each rows row p.1 m
    ]

pub as-marked : (row : Mark) → Memᴰ row marks → row.given ≡ row.marked
as-marked row i = each marks row all-as-marked i
