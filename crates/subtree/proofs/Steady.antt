-- A walk of n tries tells as much as one of n + 1: each try more that helps some slot finds one slot more, and there are n.
use mathlib.Core.Path.{◌≡◌, refl, sym, ◌∙◌}
use mathlib.Core.Logic.{◌≢◌}
use mathlib.Core.Bool.{Bool, true, false, not}
use mathlib.Core.List.{List}
use Prim.Native.Nat.{ℕ, zero, suc, ◌≤◌, ◌<◌}
use native.Mathlib.Omega.{arith}
use lib.Dec.{eqb}
use lib.ListN.{length, get_or-eq_default}
use Rattle.rules.specs.Common.{count_below}
use Rattle.rules.specs.Records.{NONE, slots_of, sequence_at, parent_at, occupied}
use Rattle.rules.specs.BlockTable.{reaches}
use Rattle.rules.proofs.Splits.{split, same?, less?, true-not-false}
use Rattle.rules.proofs.Walks.{reaches-spent, reaches-root, reaches-empty, reaches_end, reaches-up}
use Rattle.rules.proofs.Kept.Counting.{count_less, count-lt}

pub occupied-slot : (sequences : List ℕ) (i : ℕ) → occupied sequences i ≡ true → i < NONE → i < slots_of sequences
unfolding occupied slots_of
occupied-slot sequences i o l = less? i (length sequences)
    (λ h. omega arith)
    (λ h. true-not-false {b = not (eqb (sequence_at sequences i) NONE)} o (rw (get_or-eq_default sequences NONE h)))

module _ (parents sequences : List ℕ) (root : ℕ) where
  abbrev walk : ℕ → ℕ → Bool
  walk tries i = reaches parents sequences root tries i

  -- what a visit finds
  visit {ℓ} : {A : Type ℓ} (i : ℕ)
      → (i ≡ root → A)
      → (((tries : ℕ) → walk (suc tries) i ≡ false) → A)
      → (i ≢ root → occupied sequences i ≡ true → parent_at parents i ≢ NONE → A)
      → A
  visit i at-root ends up = same? i root at-root
      (λ ne. split (occupied sequences i)
      (λ o. same? (parent_at parents i) NONE
      (λ e. ends (λ tries. reaches_end parents sequences root (suc tries) i (omega arith) ne o e))
      (λ np. up ne o np))
      (λ o. ends (λ tries. reaches-empty parents sequences root (suc tries) i (omega arith) ne o)))

  grows : (tries i : ℕ) → walk tries i ≡ true → walk (suc tries) i ≡ true
  grows zero i e = true-not-false {b = walk 0 i} e (reaches-spent parents sequences root 0 i refl)
  grows (suc tries) i e = visit i
      (λ q. reaches-root parents sequences root (suc (suc tries)) i (omega arith) q)
      (λ f. true-not-false {b = walk (suc tries) i} e (f tries))
      (λ ne o np. reaches-up parents sequences root (suc tries) i ne o np
      ∙ grows tries (parent_at parents i) (sym (reaches-up parents sequences root tries i ne o np) ∙ e))

  module _ (small : (i : ℕ) → parent_at parents i ≤ NONE) (there : occupied sequences root ≡ true) where
    reached-holds : (tries i : ℕ) → walk tries i ≡ true → occupied sequences i ≡ true
    reached-holds zero i e = true-not-false {b = walk 0 i} e (reaches-spent parents sequences root 0 i refl)
    reached-holds (suc tries) i e = visit i
        (λ q. rw q there)
        (λ f. true-not-false {b = walk (suc tries) i} e (f tries))
        (λ ne o np. o)

    -- a slot that one try more reaches: at least as many others are reached already
    many : (tries i : ℕ) → walk tries i ≡ false → walk (suc tries) i ≡ true → tries ≤ count_below (walk tries) (slots_of sequences)
    many zero i f e = omega arith
    many (suc tries) i f e = visit i
        (λ q. true-not-false {b = walk (suc tries) i} (reaches-root parents sequences root (suc tries) i (omega arith) q) f)
        (λ g. true-not-false {b = walk (suc (suc tries)) i} e (g (suc tries)))
        (λ ne o np.
        let p = parent_at parents i in
        let f' : walk tries p ≡ false = sym (reaches-up parents sequences root tries i ne o np) ∙ f in
        let e' : walk (suc tries) p ≡ true = sym (reaches-up parents sequences root (suc tries) i ne o np) ∙ e in
        let l : p < slots_of sequences = occupied-slot sequences p (reached-holds (suc tries) p e') (omega (arith, small i)) in
        omega (arith, many tries p f' e', count_less (walk tries) (walk (suc tries)) (slots_of sequences) p l f' e' (λ j _. grows tries j)))

    pub steady : (i : ℕ) → i < NONE → walk (suc (slots_of sequences)) i ≡ walk (slots_of sequences) i
    steady i l =
        let n = slots_of sequences in
        split (walk n i)
        (λ e. grows n i e ∙ sym e)
        (λ f. split (walk (suc n) i)
        (λ e. absurd (omega (arith, many n i f e, count-lt (walk n) n i (occupied-slot sequences i (reached-holds (suc n) i e) l) f)))
        (λ g. g ∙ sym f))

    -- so a slot other than the root is told by its parent
    pub told-above : (i : ℕ) → i < NONE → i ≢ root → occupied sequences i ≡ true → parent_at parents i ≢ NONE
        → walk (slots_of sequences) i ≡ walk (slots_of sequences) (parent_at parents i)
    told-above i l ne o np = sym (steady i l) ∙ reaches-up parents sequences root (slots_of sequences) i ne o np
