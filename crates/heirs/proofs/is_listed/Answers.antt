-- One of the list's elements is the block.
use Rattle.std.specs.Prelude.{◌≡◌, List, [], ◌∷◌, ℕ, eqb, refl}
use Rattle.std.specs.List.{list_any}
use Rattle.std.proofs.Common.{◌∙◌}
use Rattle.rules.specs.Removal.{listed}
use Rattle.rules.proofs.Splits.{split}
use Rattle.heirs.proofs.is_listed.Goals as goal

any_listed : (xs : List ℕ) (i : ℕ) → list_any (λ x. eqb x i) xs ≡ listed xs i
unfolding listed
any_listed [] i = refl
any_listed (x ∷ xs) i = split (eqb x i) (λ e. rw e) (λ e. rw e (any_listed xs i))

pub returns : goal.returns
returns c = c.contains.ensures.value ∙ any_listed _ _
