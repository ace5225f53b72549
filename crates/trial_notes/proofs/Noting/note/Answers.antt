-- The notes have room.
use borrow.Author.Rules.{rules}
use Rattle.trial_lines.specs.Printing.{printed}
use Rattle.trial_notes.proofs.Room.{notes-fit}
use Rattle.trial_notes.proofs.Noting.note.Goals as goal

pub shape_of-out : goal.shape_of-out
unfolding printed
shape_of-out c = rw (c.take_chunk.ensures.said, c.start-page.ensures)

pub returns : goal.returns
returns c = notes-fit _ _ _ _ _ c.args.chunk.now c.start-page.ensures (search rules) c.take_chunk.ensures
