-- The active blocks in the list of a subtree are those that forbid its removal.
use Rattle.std.specs.List.{list_any, filter}
use mathlib.Core.Path.{◌≡◌, refl}
use mathlib.Core.Bool.{Bool, true, ◌&&◌}
use mathlib.Core.List.{List, [], ◌∷◌}
use Prim.Native.Nat.{ℕ}
use Rattle.rules.specs.Records.{Blocks, occupied, active}
use Rattle.rules.specs.BlockTable.{in_subtree, mark_subtree}
use Rattle.rules.specs.Calls.{holds_active}
use Rattle.rules.proofs.Splits.{split}
use Rattle.rules.proofs.Ranges.{all-filter, lowest-any}
use Rattle.subtree.specs.Active.{any_active}

any-filter : (test p : ℕ → Bool) (xs : List ℕ) → list_any p (filter test xs) ≡ list_any (λ x. test x && p x) xs
any-filter test p [] = refl
any-filter test p (x ∷ xs) = split (test x) (λ e. rw (e, any-filter test p xs)) (λ e. rw e (any-filter test p xs))

pub marked-active : (b : Blocks) (root : ℕ) → occupied b.sequences root ≡ true
    → any_active b.flags (mark_subtree b.parents b.sequences root) ≡ holds_active b root
unfolding mark_subtree holds_active
marked-active b root o =
    rw (o, all-filter, lowest-any) (any-filter (in_subtree b.parents b.sequences root) (active b.flags) _)
