-- A line that has begun, as a buffer and a number hold it: its bytes at the front of zeros and how many they are; of one that is too long
-- no byte, and one too many.
use Rattle.std.specs.Prelude.{List, ◌++◌, ℕ, ◌+◌, ◌-◌, leb, length, take, replicate, if◌then◌else◌}
use Rattle.trial_lines.specs.Begun.{Begun, so_far, too_long, line_most}

unfoldable pub begun_of : (bytes : List ℕ) (count : ℕ) → Begun
begun_of bytes count = if leb count line_most then so_far (take count bytes) else too_long

unfoldable pub bytes_of : (begun : Begun) → List ℕ
bytes_of (so_far bytes) = bytes ++ replicate (line_most - length bytes) 0
bytes_of too_long = replicate line_most 0

unfoldable pub count_of : (begun : Begun) → ℕ
count_of (so_far bytes) = length bytes
count_of too_long = line_most + 1
