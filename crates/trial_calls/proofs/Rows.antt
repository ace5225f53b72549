-- The lines of a screen whose keys are given, record after record.
use mathlib.Core.Path.{◌≡◌, sym, ap, ◌∙◌}
use mathlib.Core.List.{List, [], ◌∷◌, ◌++◌, append-nil, append_assoc}
use Prim.Native.Nat.{ℕ, ◌+◌}
use native.Mathlib.Numerals.{add-one}
use lib.ListN.{get_or}
use Rattle.rules.specs.Screen.{row_of}
use Rattle.rules.specs.declared.HeadRow.{HeadRow}
use Rattle.screen_call.specs.Keys.{head_in, rows_in}
use Rattle.trial_lines.specs.Writing.{row_line, rows_lines}
use Rattle.trial_lines.specs.Printing.{printed}
use Rattle.trial_lines.specs.declared.page.Page.{Page}
use Rattle.trial_lines.proofs.Printing.{printed-none, printed_then}

rows_last : (rows : List HeadRow) (row : HeadRow) → rows_lines (rows ++ row ∷ []) ≡ rows_lines rows ++ row_line row
unfolding rows_lines
rows_last [] row = append-nil (row_line row)
rows_last (first ∷ rows) row = rw (rows_last rows row, append_assoc (row_line first) (rows_lines rows) (row_line row))

module _ (sequences tips tails connected keys : List ℕ) (page : Page) where
  pub rows-first : printed page (rows_lines (rows_in sequences tips tails connected keys 0)) ≡ page
  unfolding rows_in rows_lines
  rows-first = printed-none page

  pub rows-turn : (row : HeadRow) (key i : ℕ) → key ≡ get_or keys i 0 → row ≡ row_of sequences tips tails connected (head_in key)
      → printed (printed page (rows_lines (rows_in sequences tips tails connected keys i))) (row_line row)
      ≡ printed page (rows_lines (rows_in sequences tips tails connected keys (i + 1)))
  unfolding rows_in
  rows-turn row key i names is =
      let before = rows_in sequences tips tails connected keys i in
      printed_then page (rows_lines before) (row_line row)
      ∙ rw (add-one, ← names, ← is) (ap (printed page) (sym (rows_last before row)))

pub ruleset rows = (rows-first, rows-turn)
