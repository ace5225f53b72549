-- The call, then its line.
use Rattle.trial_calls.proofs.Telling.{under-tells}
use Rattle.trial_calls.proofs.tell_under.Goals as goal

pub returns : goal.returns
returns c = under-tells (c.under-answer.ensures _) c.under_line.ensures
