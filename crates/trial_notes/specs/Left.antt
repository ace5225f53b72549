-- What a function of the notes leaves in a buffer that has room for all that is noted.
use Rattle.std.specs.Prelude.{◌≡◌, List, ◌++◌, ℕ, length, drop}
use Rattle.trial_lines.specs.Fed.{Fed}
use Rattle.trial_notes.specs.Notes.{last_noted}
use Rattle.trial_notes.specs.declared.Noting.{Noting}

-- how many bytes the notes of a chunk may have
abbrev pub room : ℕ
room = 196608

-- the line that comes, the notes before what stood behind them, and the place after them
pub record Fills (f : Fed Noting) (out : List ℕ) (z : Noting) (written : List ℕ) (next : ℕ) : Type 0 where
  pub noting : z ≡ f.after
  pub text : written ≡ f.said ++ drop (length f.said) out
  pub end : next ≡ length f.said

-- the note of a last line
pub record Ends (z : Noting) (out written : List ℕ) (next : ℕ) : Type 0 where
  pub text : written ≡ last_noted z ++ drop (length (last_noted z)) out
  pub end : next ≡ length (last_noted z)
