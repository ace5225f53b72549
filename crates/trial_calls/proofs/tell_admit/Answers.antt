-- The call, then its line.
use Rattle.trial_calls.proofs.Telling.{admit-tells}
use Rattle.trial_calls.proofs.tell_admit.Goals as goal

pub returns : goal.returns
returns c = admit-tells c.admit-answer.ensures c.admit_line.ensures
