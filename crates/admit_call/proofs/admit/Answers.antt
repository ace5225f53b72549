-- By the answer.
use Rattle.std.proofs.lemmas.Result.{err_from_is_err_and}
use Rattle.admit_call.proofs.Replies.{admit-refused, admit-places}
use Rattle.admit_call.proofs.admit.Goals as goal

pub returns-in_err-slot : goal.returns-in_err-slot
returns-in_err-slot c =
    let p = err_from_is_err_and c.from_residual.result c.from_residual.ensures.1 in
    rw (p.1, p.2) (admit-refused _ _ _ _ _ _ (c.in_err-slot.ensures _ _))

pub returns : goal.returns
returns c = admit-places _ _ _ _ _ _ _ _ _ (c.in_ok-slot.ensures _ _) c.hash_at.ensures c.hash_at-2.ensures c.admit_at.ensures
