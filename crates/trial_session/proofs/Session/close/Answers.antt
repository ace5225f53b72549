-- The last line, then the listing.
use borrow.Author.Rules.{rules}
use Rattle.trial_lines.specs.Printing.{printed}
use Rattle.trial_session.proofs.Closing.{closes}
use Rattle.trial_session.proofs.Session.close.Goals as goal

pub shape_of-out : goal.shape_of-out
unfolding printed
shape_of-out c = rw (c.list.ensures.lists, c.end_last.ensures.said, c.start-page.ensures)

pub returns : goal.returns
returns c = closes _ _ _ _ _ _ c.start-page.ensures (search rules) c.end_last.ensures c.list.ensures.lists c.list.ensures.sized
