-- The call, then its line.
use Rattle.trial_calls.proofs.Telling.{timer-tells}
use Rattle.trial_calls.proofs.tell_timer.Goals as goal

pub returns : goal.returns
returns c = timer-tells (c.timer-answer.ensures _) c.timer_line.ensures
