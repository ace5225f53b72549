-- Whatever stands in the arrays.
use Rattle.trial_session.proofs.First.{starts}
use Rattle.trial_session.proofs.Session.start.Goals as goal

pub returns-clause-session : goal.returns-clause-session
returns-clause-session c = starts _ _ c.new.ensures
