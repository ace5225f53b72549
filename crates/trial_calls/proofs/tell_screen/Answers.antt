-- The call, then its lines.
use Rattle.trial_calls.proofs.Telling.{screen-tells}
use Rattle.trial_calls.proofs.tell_screen.Goals as goal

pub returns : goal.returns
returns c = screen-tells (c.screen-answer.ensures _).does c.screen_lines.ensures
