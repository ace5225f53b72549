-- The lists of children, as each turn makes them.
use mathlib.Core.Path.{◌≡◌, refl, sym, ◌∙◌}
use mathlib.Core.Logic.{◌≢◌}
use mathlib.Core.Bool.{true, false}
use mathlib.Core.List.{List}
use Prim.Native.Nat.{ℕ, zero, suc, ◌+◌, ◌≤◌, ◌<◌}
use native.Mathlib.Numerals.{add-one}
use native.Mathlib.Omega.{arith}
use lib.Dec.{eqb}
use lib.ListN.{get_or, set, replicate, get_or-replicate, length-replicate, length-set}
use lib.Seq.{get_or-set_same, get_or-set_other}
use borrow.Author.Tests.{eqb-true, eq-eqb, ne_eqb}
use Rattle.rules.specs.Records.{NONE, slots_of, parent_at, occupied}
use Rattle.rules.specs.BlockTable.{child_of}
use Rattle.rules.specs.Calls.{max_blocks}
use Rattle.rules.proofs.Splits.{split, same?, and-true, true-not-false}
use Rattle.under_call.specs.Lists.{last_child, Listed}

module _ (parents sequences : List ℕ) where
  abbrev last : ℕ → ℕ → ℕ
  last i k = last_child parents sequences i k

  pub last_none : (i : ℕ) → last i 0 ≡ NONE
  unfolding last_child
  last_none i = refl

  pub last-takes : (i k : ℕ) → child_of parents sequences i k ≡ true → last i (suc k) ≡ k
  unfolding last_child
  last-takes i k e = rw e

  pub last-skips : (i k : ℕ) → child_of parents sequences i k ≡ false → last i (suc k) ≡ last i k
  unfolding last_child
  last-skips i k e = rw e

  -- none, or a child below k
  pub last? {ℓ} : {A : Type ℓ} (i k : ℕ) → (last i k ≡ NONE → A) → (last i k < k → child_of parents sequences i (last i k) ≡ true → A) → A
  last? i zero f g = f (last_none i)
  last? i (suc k) f g = split (child_of parents sequences i k)
      (λ e. let q = last-takes i k e in g (omega arith) (rw q e))
      (λ e. let q = last-skips i k e in last? i k (λ z. f (q ∙ z)) (λ l c. g (omega arith) (rw q c)))

  pub child-there : (i k : ℕ) → child_of parents sequences i k ≡ true → (occupied sequences k ≡ true) × (parent_at parents k ≡ i)
  unfolding child_of
  child-there i k e = let (o, q) = and-true (occupied sequences k) (eqb (parent_at parents k) i) e in (o, eqb-true (parent_at parents k) i q)

  pub child-is : (k : ℕ) → occupied sequences k ≡ true → child_of parents sequences (parent_at parents k) k ≡ true
  unfolding child_of
  child-is k o = rw (o, eq-eqb (parent_at parents k) (parent_at parents k) refl)

  other-child : (i k : ℕ) → parent_at parents k ≢ i → child_of parents sequences i k ≡ false
  unfolding child_of
  other-child i k ne = split (occupied sequences k) (λ o. rw (o, ne_eqb (parent_at parents k) i ne)) (λ o. rw o)

  empty-child : (i k : ℕ) → occupied sequences k ≡ false → child_of parents sequences i k ≡ false
  unfolding child_of
  empty-child i k o = rw o

  -- ---- no block, and one more

  pub none-listed : slots_of sequences ≤ max_blocks → Listed parents sequences 0 (replicate max_blocks NONE) (replicate max_blocks NONE)
  none-listed small =
      let len = length-replicate {A = ℕ} max_blocks NONE in
      record {
        holds = omega arith;
        holds_next = omega arith;
        firsts = λ i l. get_or-replicate max_blocks i NONE NONE (omega arith) ∙ sym (last_none i);
        nexts = λ i l. absurd (omega arith);
      }

  module _ (k : ℕ) (first next : List ℕ) (w : Listed parents sequences k first next) where
    pub skip-empty : occupied sequences k ≡ false → Listed parents sequences (k + 1) first next
    skip-empty o = rw add-one (record {
      holds = w.holds;
      holds_next = w.holds_next;
      firsts = λ i l. w.firsts i l ∙ sym (last-skips i k (empty-child i k o));
      nexts = λ i l oi. same? i k
          (λ e. true-not-false {b = occupied sequences i} oi (rw e o))
          (λ ne. w.nexts i (omega arith) oi);
    })

    pub list-block : k < slots_of sequences → occupied sequences k ≡ true
        → Listed parents sequences (k + 1) (set first (parent_at parents k) k) (set next k (get_or first (parent_at parents k) NONE))
    list-block within o =
        let p = parent_at parents k in
        let lf = length-set first p k in
        let ln = length-set next k (get_or first p NONE) in
        let hf = w.holds in
        let hn = w.holds_next in
        rw add-one (record {
          holds = omega arith;
          holds_next = omega arith;
          firsts = λ i l. same? i p
              (λ e. rw e (get_or-set_same first p k NONE (omega arith) ∙ sym (last-takes p k (child-is k o))))
              (λ ne. get_or-set_other first p i k NONE ne ∙ w.firsts i (omega arith) ∙ sym (last-skips i k (other-child i k (λ e. ne (sym e)))));
          nexts = λ i l oi b. same? i k
              (λ e. rw e (get_or-set_same next k (get_or first p NONE) NONE (omega arith) ∙ w.firsts p (let b' = rw e at b in omega arith)))
              (λ ne. get_or-set_other next k i (get_or first p NONE) NONE ne ∙ w.nexts i (omega arith) oi (omega arith));
        })
