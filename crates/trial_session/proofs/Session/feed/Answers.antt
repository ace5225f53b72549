-- What is printed has room.
use borrow.Author.Rules.{rules}
use Rattle.trial_lines.specs.Printing.{printed}
use Rattle.trial_session.proofs.Room.{feeds}
use Rattle.trial_session.proofs.Session.feed.Goals as goal

pub shape_of-out : goal.shape_of-out
unfolding printed
shape_of-out c = rw (c.take_chunk.ensures.said, c.start-page.ensures)

pub returns : goal.returns
returns c = feeds _ _ _ _ _ c.args.chunk.now c.start-page.ensures (search rules) c.take_chunk.ensures
