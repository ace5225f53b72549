-- Everything emptied.
use mathlib.Core.Path.{sym}
use Rattle.fresh_call.proofs.Emptied.{misshapen, emptied}
use Rattle.fresh_call.proofs.fresh.Goals as goal

pub returns-then-not-is_shaped : goal.returns-then-not-is_shaped
returns-then-not-is_shaped c = misshapen _ (sym c.if-not-is_shaped.ensures)

pub returns : goal.returns
returns c = emptied _ _ _ (sym c.if-not-is_shaped.ensures) c.empty_blocks.ensures c.empty_heads.ensures
