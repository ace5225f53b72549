-- A walk by range: no block is past the end of the sequences, NONE_REF is past it, and where no block is, the walk is over.
use Rattle.std.proofs.Common.{arith, ◌≡◌, ℕ, zero, suc, ◌<◌, ◌≤◌, true, false, not, eqb, List, length, get_or, refl, sym, ◌∙◌}
use Rattle.std.proofs.lemmas.Bool.Decides.{nat_tests}
use lib.ListN.{get_or-eq_default}
use Rattle.rules.specs.Records.{NONE, parent_at, occupied, active}
use Rattle.rules.specs.Anchor.{tail, anchor_from}
use Rattle.rules.proofs.Cells.{get_d_any}
use Rattle.rules.proofs.Splits.{same?}
use Rattle.rules.proofs.Walks.{anchor-spent, anchor-empty, anchor-root, anchor-up}

module _ (sequences : List ℕ) (i : ℕ) where
  pub past_the_end : length sequences ≤ i → occupied sequences i ≡ false
  unfolding occupied
  past_the_end h = grind (arith, nat_tests, get_or-eq_default sequences NONE h)

  pub in_range : i < length sequences → occupied sequences i ≡ not (eqb (get_or sequences i 0) NONE)
  unfolding occupied
  in_range h = rw (get_d_any sequences i NONE 0 h)

module _ (parents sequences flags : List ℕ) where
  anchor-over : (k last i : ℕ) → occupied sequences i ≡ false → anchor_from parents sequences flags k last i ≡ tail last
  anchor-over zero last i o = anchor-spent parents sequences flags zero last i refl
  anchor-over (suc k) last i o = anchor-empty parents sequences flags (suc k) last i (omega arith) o

  pub anchor-goes : (k last i : ℕ) → length sequences ≤ NONE → occupied sequences i ≡ true → active flags i ≡ false
      → anchor_from parents sequences flags (suc k) last i ≡ anchor_from parents sequences flags k i (parent_at parents i)
  anchor-goes k last i h o a = same? (parent_at parents i) NONE
      (λ e. anchor-root parents sequences flags (suc k) last i (omega arith) o a e
      ∙ sym (anchor-over k i (parent_at parents i) (rw e (past_the_end sequences NONE h))))
      (λ ne. anchor-up parents sequences flags k last i o a ne)
