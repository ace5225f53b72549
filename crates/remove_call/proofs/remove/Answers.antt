-- What is listed is the subtree.
use mathlib.Core.Path.{sym}
use Rattle.std.proofs.Common.{rules}
use lib.ListN.{length-replicate}
use Prim.Native.Nat.{ℕ}
use Rattle.rules.specs.Removal.{removed}
use Rattle.rules.specs.Calls.{max_blocks, remove}
use Rattle.remove_call.proofs.Marked.{marked-listed}
use Rattle.remove_call.proofs.remove.Goals as goal

pub returns-then-any_active : goal.returns-then-any_active
unfolding remove
returns-then-any_active c =
    let marked = c.mark_subtree-count.ensures in
    let listed = marked-listed _ _ _ _ _ _ (sym c.if-not-is_shaped.ensures) (sym c.if-not-is_occupied.ensures)
    (length-replicate {A = ℕ} max_blocks 0) marked.0 c.min-end.ensures marked.1 in
    search rules

pub returns : goal.returns
unfolding remove removed
returns c =
    let marked = c.mark_subtree-count.ensures in
    let listed = marked-listed _ _ _ _ _ _ (sym c.if-not-is_shaped.ensures) (sym c.if-not-is_occupied.ensures)
    (length-replicate {A = ℕ} max_blocks 0) marked.0 c.min-end.ensures marked.1 in
    search rules
