-- The call, then its line.
use Rattle.trial_calls.proofs.Telling.{restart-tells}
use Rattle.trial_calls.proofs.tell_restart.Goals as goal

pub returns : goal.returns
returns c = restart-tells c.restart-answer.ensures c.restart_line.ensures
