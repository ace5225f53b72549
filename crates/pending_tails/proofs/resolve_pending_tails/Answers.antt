-- Left out where the new block is gone.
use Rattle.std.proofs.Common.{rules}
use Rattle.rules.specs.Admission.{resolve_tails}
use Rattle.pending_tails.proofs.resolve_pending_tails.Goals as goal

pub returns-then-is_occupied : goal.returns-then-is_occupied
unfolding resolve_tails
returns-then-is_occupied c = search rules

pub returns-else-is_occupied : goal.returns-else-is_occupied
unfolding resolve_tails
returns-else-is_occupied c = search rules
