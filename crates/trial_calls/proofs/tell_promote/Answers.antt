-- The call, then its line.
use Rattle.trial_calls.proofs.Telling.{promote-tells}
use Rattle.trial_calls.proofs.tell_promote.Goals as goal

pub returns : goal.returns
returns c = promote-tells c.promote-answer.result c.args.active c.promote-answer.ensures c.unwrap_or.ensures c.promote_line.ensures
