-- The heads emptied, the counts set, the heads rebuilt.
use mathlib.Core.Path.{sym}
use Rattle.restart_call.proofs.Restarted.{misshapen, rebuilt-anew}
use Rattle.restart_call.proofs.restart.Goals as goal

pub returns-then-not-is_shaped : goal.returns-then-not-is_shaped
returns-then-not-is_shaped c = misshapen _ _ (sym c.if-not-is_shaped.ensures)

pub returns : goal.returns
returns c =
    rebuilt-anew _ _ _ _ _ (sym c.if-not-is_shaped.ensures) c.empty_heads.ensures c.recompute_head_ref_counts.ensures c.rebuild_from_blocks.ensures
