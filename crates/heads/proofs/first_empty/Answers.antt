-- The first head whose tip is no block.
use mathlib.Core.Path.{sym, ◌∙◌}
use Rattle.heads.proofs.Tips.{empty-by-tip}
use Rattle.heads.proofs.first_empty.Goals as goal

pub returns : goal.returns
returns c = c.head_with.ensures ∙ sym (empty-by-tip c.args.tips.now)
