-- The call, then its line.
use Rattle.trial_calls.proofs.Telling.{remove-tells}
use Rattle.trial_calls.proofs.tell_remove.Goals as goal

pub returns : goal.returns
returns c = remove-tells (c.remove-answer.ensures _) c.remove_line.ensures
