-- What a screen leaves in a list: its records, and behind them what stood there.
use mathlib.Core.Path.{◌≡◌, ap, ◌∙◌}
use mathlib.Core.List.{List, ◌++◌}
use Prim.Native.Nat.{◌+◌, ◌≤◌}
use native.Mathlib.Nat.{zero-add}
use native.Mathlib.Omega.{arith}
use lib.ListN.{length, drop}
use lib.Seq.{sets-eq}
use Rattle.rules.specs.Answers.{shown}
use Rattle.rules.specs.declared.HeadRow.{HeadRow}
use Rattle.call_numbers.specs.Numbers.{rows_to}

pub rows-kept : (rows list : List HeadRow) → length rows ≤ length list → rows_to (shown rows) list ≡ rows ++ drop (length rows) list
rows-kept rows list h =
    let l : 0 + length rows ≤ length list = omega arith in
    sets-eq rows list 0 l ∙ ap (λ k. rows ++ drop k list) (zero-add (length rows))
