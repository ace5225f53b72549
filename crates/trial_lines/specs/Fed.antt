-- Bytes taken one after the other: what they leave, and what they have printed.
use Rattle.std.specs.Prelude.{◌≡◌, List, [], ◌∷◌, ◌++◌, ℕ}
use Rattle.trial_lines.specs.Printing.{printed}
use Rattle.trial_lines.specs.declared.page.Page.{Page}

pub record Fed (S : Type 0) : Type 0 where
  pub after : S
  pub said : List ℕ

-- what is left, and the page with what is printed
pub record Leaves {S : Type 0} (f : Fed S) (page : Page) (s : S) (g : Page) : Type 0 where
  pub after : s ≡ f.after
  pub said : g ≡ printed page f.said

module _ {S : Type 0} (one : S → ℕ → Fed S) where
  unfoldable pub fed : (s : S) (bytes : List ℕ) → Fed S
  fed s [] = record { after = s; said = [] }
  fed s (byte ∷ bytes) =
      let f = one s byte in
      let g = fed f.after bytes in
      record { after = g.after; said = f.said ++ g.said }

  -- chunk after chunk, and what the end prints
  unfoldable pub fed_in_chunks : (last : S → List ℕ) (s : S) (chunks : List (List ℕ)) → List ℕ
  fed_in_chunks last s [] = last s
  fed_in_chunks last s (chunk ∷ chunks) = let f = fed s chunk in f.said ++ fed_in_chunks last f.after chunks
