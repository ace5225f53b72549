-- Flag and status, then all caches.
use Rattle.rules.specs.Promotion.{activate, promoted}
use Rattle.promote_call.proofs.raise.Goals as goal

pub returns : goal.returns
unfolding promoted activate
returns c =
    rw (← c.activate.ensures, ← c.recompute_all_caches.ensures)
