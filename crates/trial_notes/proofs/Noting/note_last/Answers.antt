-- The note has room.
use borrow.Author.Rules.{rules}
use Rattle.trial_lines.specs.Printing.{printed}
use Rattle.trial_notes.proofs.Room.{last-fits}
use Rattle.trial_notes.proofs.Noting.note_last.Goals as goal

pub shape_of-out : goal.shape_of-out
unfolding printed
shape_of-out c = rw (c.end_last.ensures, c.start-page.ensures)

pub returns : goal.returns
returns c = last-fits _ _ _ _ c.start-page.ensures (search rules) c.end_last.ensures
