-- A head is in use where its tip is a block.
use Rattle.std.proofs.Common.{arith, ◌≡◌, ◌≢◌, ℕ, eqb, List, None}
use Rattle.std.proofs.lemmas.Bool.Decides.{nat_tests}
use Rattle.rules.specs.Common.{lowest}
use Rattle.rules.specs.Records.{NONE, slots_of, tip_at, used}
use Rattle.rules.specs.Caches.{slot_of_head}
use Rattle.rules.specs.Admission.{first_empty}
use Rattle.rules.proofs.Search.{lowest-none, lowest-skips, lowest-ext}

module _ (tips : List ℕ) where
  pub empty-by-tip : first_empty tips ≡ lowest (λ (k : ℕ). eqb (tip_at tips k) NONE) (slots_of tips)
  unfolding first_empty used
  empty-by-tip = lowest-ext _ _ (slots_of tips) (λ k l. grind (arith, nat_tests))

  pub head-by-tip : (tip : ℕ) → tip ≢ NONE → slot_of_head tips tip ≡ lowest (λ (k : ℕ). eqb (tip_at tips k) tip) (slots_of tips)
  unfolding slot_of_head used
  head-by-tip tip ne = lowest-ext _ _ (slots_of tips) (λ k l. grind (arith, nat_tests))

  pub no-head : (tip : ℕ) → tip ≡ NONE → slot_of_head tips tip ≡ None
  unfolding slot_of_head used
  no-head tip e = lowest-skips _ 0 (slots_of tips) (omega arith) (lowest-none _) (λ k a b. grind (arith, nat_tests))
