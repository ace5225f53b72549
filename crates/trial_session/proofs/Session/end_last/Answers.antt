-- A line has begun, or none.
use Rattle.std.proofs.Common.{rules}
use Rattle.trial_session.proofs.Bytes.{last-ends, none-ends}
use Rattle.trial_session.proofs.Session.end_last.Goals as goal

pub returns-then-has_begun : goal.returns-then-has_begun
returns-then-has_begun c = last-ends _ _ _ _ (search rules) (rw (c.line-line.ensures, c.new-self.ensures) at c.do_line.ensures)

pub returns-else-has_begun : goal.returns-else-has_begun
returns-else-has_begun c = none-ends _ _ (search rules)
