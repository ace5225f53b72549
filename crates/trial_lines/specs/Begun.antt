-- What has come of a line (01, "One trial whole").
use Rattle.std.specs.Prelude.{Bool, true, false, List, [], ◌∷◌, ◌++◌, ℕ, ltb, length, if◌then◌else◌, Option, None}
use Rattle.trial_lines.specs.Reading.{parse}
use Rattle.trial_lines.specs.declared.Line.{Line}

pub data Begun : Type 0 where
  so_far : (bytes : List ℕ) → Begun
  too_long : Begun

-- a line has at most 128 bytes before its end
abbrev pub line_most : ℕ
line_most = 128

unfoldable pub longer : (begun : Begun) (byte : ℕ) → Begun
longer (so_far bytes) byte = if ltb (length bytes) line_most then so_far (bytes ++ byte ∷ []) else too_long
longer too_long byte = too_long

unfoldable pub has_begun : (begun : Begun) → Bool
has_begun (so_far []) = false
has_begun (so_far (byte ∷ bytes)) = true
has_begun too_long = true

unfoldable pub line_begun : (begun : Begun) → Option Line
line_begun (so_far bytes) = parse bytes
line_begun too_long = None

-- how many bytes are taken at once
abbrev pub chunk_most : ℕ
chunk_most = 2048
