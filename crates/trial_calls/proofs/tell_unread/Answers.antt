-- Its line.
use Rattle.trial_calls.proofs.Telling.{unread-tells}
use Rattle.trial_calls.proofs.tell_unread.Goals as goal

pub returns : goal.returns
returns c = λ t. unread-tells c.letter_line.ensures
