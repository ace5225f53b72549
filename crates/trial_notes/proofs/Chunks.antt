-- It does not matter in which chunks an input comes.
use mathlib.Core.Path.{◌≡◌}
use mathlib.Core.List.{List, flatten}
use Prim.Native.Nat.{ℕ}
use Rattle.trial_lines.proofs.Joined.{fed-in-chunks}
use Rattle.trial_notes.specs.Notes.{noted_byte, last_noted, start, notes, in_chunks}

pub whole-in-chunks : (chunks : List (List ℕ)) → in_chunks start chunks ≡ notes (flatten chunks)
unfolding notes
whole-in-chunks chunks = fed-in-chunks noted_byte last_noted start chunks
