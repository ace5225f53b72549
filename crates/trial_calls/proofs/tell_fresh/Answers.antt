-- The call, then its line.
use Rattle.trial_calls.proofs.Telling.{fresh-tells}
use Rattle.trial_calls.proofs.tell_fresh.Goals as goal

pub returns : goal.returns
returns c =
    λ n m. fresh-tells c.fresh-answer.result c.args.active
    c.fresh-answer.ensures c.unwrap_or.ensures c.is_ok.ensures.value c.fresh_line.ensures
