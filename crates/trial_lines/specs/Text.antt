-- A text, byte by byte.
use Rattle.std.specs.Prelude.{List, [], ◌∷◌, ℕ, zero, suc}
use Prim.Native.Char.{code}
use Prim.Native.String.{String, len, char_at}

unfoldable pub bytes_from : (left : ℕ) (text : String) (place : ℕ) → List ℕ
bytes_from zero text place = []
bytes_from (suc left) text place = code (char_at text place) ∷ bytes_from left text (suc place)

unfoldable pub bytes : (text : String) → List ℕ
bytes text = bytes_from (len text) text 0
