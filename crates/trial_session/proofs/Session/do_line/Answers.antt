-- The line's sizes, the call on the fronts, and the sizes after it.
use Rattle.trial_session.proofs.Answered.{line-does}
use Rattle.trial_session.proofs.Session.do_line.Goals as goal

pub returns : goal.returns
returns c =
    let told = c.answer-told.ensures in
    line-does _ _ _ _ _ _ _ _ _ told.tells c.asked-sizes.ensures c.after-self.ensures told.sized
