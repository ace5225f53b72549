-- How much hangs under a block, beside what `mark_subtree` lists: the levels that a block is on, and the walk from it to the root.
use mathlib.Core.Path.{◌≡◌, refl, sym, ◌∙◌}
use mathlib.Core.Logic.{◌≢◌}
use mathlib.Core.Bool.{Bool, true, false}
use mathlib.Core.List.{List, [], ◌∷◌}
use Prim.Native.Nat.{ℕ, zero, suc, ◌+◌, ◌*◌, ◌≤◌, ◌<◌, max}
use native.Mathlib.Omega.{arith}
use native.Mathlib.Nat.{suc-mul}
use lib.Dec.{eqb}
use lib.ListN.{length, length-append}
use borrow.Author.Tests.{eq-eqb, ne_eqb}
use Rattle.rules.specs.Common.{all_below}
use Rattle.rules.specs.Records.{NONE, slots_of, sequence_at, parent_at, occupied}
use Rattle.rules.specs.BlockTable.{reaches, in_subtree, mark_subtree}
use Rattle.rules.specs.Under.{on_level, met, hanging, highest}
use Rattle.rules.proofs.Splits.{split, same?, true-not-false}
use Rattle.rules.proofs.Search.{all-few}
use Rattle.rules.proofs.Sums.{Joins, adding, greater, over, along, only, over-ext, none_left, over_none, over-one, over-swap, over_first, along-append, along-below, length-along, over-most}
use Rattle.rules.proofs.Walks.{reaches-spent, reaches-root, reaches-empty, reaches_end, reaches-up}

pub highest-along : (sequences l : List ℕ) → highest sequences l ≡ along max (sequence_at sequences) l
unfolding highest along
highest-along sequences [] = refl
highest-along sequences (i ∷ l) = rw (highest-along sequences l) refl

module _ (parents sequences : List ℕ) (root : ℕ) where
  abbrev on : ℕ → ℕ → Bool
  on level i = on_level parents sequences root level i

  abbrev reached : ℕ → ℕ → Bool
  reached tries i = reaches parents sequences root tries i

  abbrev n : ℕ
  n = slots_of sequences

  pub on-own : (i : ℕ) → on 0 i ≡ eqb i root
  unfolding on_level
  on-own i = refl

  pub on-empty : (level i : ℕ) → occupied sequences i ≡ false → on (suc level) i ≡ false
  unfolding on_level
  on-empty level i o = rw o

  pub on-up : (level i : ℕ) → occupied sequences i ≡ true → on (suc level) i ≡ on level (parent_at parents i)
  unfolding on_level
  on-up level i o = rw o

  module _ (op : ℕ → ℕ → ℕ) (j : Joins op) (own : ℕ → ℕ) where
    -- level by level
    pub met-over : (levels : ℕ) → along op own (met parents sequences root levels) ≡ over op (λ k. over op (λ i. only (on k i) (own i)) n) levels
    unfolding met along over
    met-over zero = refl
    met-over (suc levels) =
        along-append op j own (met parents sequences root levels) (all_below (on levels) n)
        ∙ rw (met-over levels, along-below op j own (on levels) n)

    pub marked-over : occupied sequences root ≡ true
        → along op own (mark_subtree parents sequences root) ≡ over op (λ i. only (in_subtree parents sequences root i) (own i)) n
    unfolding mark_subtree
    marked-over o = rw o (along-below op j own (in_subtree parents sequences root) n)

  module _ (real : root ≢ NONE) (beyond : occupied sequences NONE ≡ false) where
    reaches-none : (tries : ℕ) → reached tries NONE ≡ false
    reaches-none zero = reaches-spent parents sequences root 0 NONE refl
    reaches-none (suc tries) = reaches-empty parents sequences root (suc tries) NONE (omega arith) (λ e. real (sym e)) beyond

    module _ (op : ℕ → ℕ → ℕ) (j : Joins op) (x : ℕ) where
      -- of the root, the levels past its own add nothing
      abbrev Again : Type 0
      Again = (tries : ℕ) → tries < n → op x (over op (λ k. only (on (suc k) root) x) tries) ≡ x

      -- a block is on one of so many levels exactly when so many tries reach the root
      levels-walk : Again → (tries i : ℕ) → tries ≤ n → over op (λ k. only (on k i) x) tries ≡ only (reached tries i) x
      unfolding over
      levels-walk again zero i l = rw (reaches-spent parents sequences root 0 i refl)
      levels-walk again (suc tries) i l = over_first op j (λ k. only (on k i) x) tries ∙ rw (on-own i) (same? i root
          (λ q. rw (eq-eqb i root q, reaches-root parents sequences root (suc tries) i (omega arith) q, q) (again tries (omega arith)))
          (λ ne. rw (ne_eqb i root ne) (none_left op j (over op (λ k. only (on (suc k) i) x) tries) ∙ split (occupied sequences i)
          (λ o. over-ext op (λ k. only (on (suc k) i) x) (λ k. only (on k (parent_at parents i)) x) tries (λ k _. rw (on-up k i o) refl)
          ∙ levels-walk again tries (parent_at parents i) (omega arith)
          ∙ same? (parent_at parents i) NONE
          (λ e. rw (e, reaches-none tries, reaches_end parents sequences root (suc tries) i (omega arith) ne o e))
          (λ np. rw (reaches-up parents sequences root tries i ne o np) refl))
          (λ o. over_none op j (λ k. only (on (suc k) i) x) tries (λ k _. rw (on-empty k i o))
          ∙ rw (reaches-empty parents sequences root (suc tries) i (omega arith) ne o)))))

    -- together, over all blocks
    module _ (there : occupied sequences root ≡ true) (some : 0 < n) (op : ℕ → ℕ → ℕ) (j : Joins op) (own : ℕ → ℕ) where
      in-subtree : (i : ℕ) → only (reached n i) (own i) ≡ only (in_subtree parents sequences root i) (own i)
      unfolding in_subtree
      in-subtree i = split (occupied sequences i)
          (λ o. rw o refl)
          (λ o. rw (o, reaches-empty parents sequences root n i some (λ q. true-not-false {b = occupied sequences i} (rw q there) o) o))

      pub hanging-marked : ((x : ℕ) → Again op j x) → along op own (hanging parents sequences root) ≡ along op own (mark_subtree parents sequences root)
      unfolding hanging
      hanging-marked again =
          met-over op j own n
          ∙ over-swap op j (λ k i. only (on k i) (own i)) n n
          ∙ over-ext op (λ i. over op (λ k. only (on k i) (own i)) n) (λ i. only (in_subtree parents sequences root i) (own i)) n
          (λ i _. levels-walk op j (own i) (again (own i)) n i (omega arith) ∙ in-subtree i)
          ∙ sym (marked-over op j own there)

    module _ (there : occupied sequences root ≡ true) (some : 0 < n) where
      -- the greater of two counts what is met again as once
      pub highest-marked : highest sequences (hanging parents sequences root) ≡ highest sequences (mark_subtree parents sequences root)
      highest-marked =
          highest-along sequences (hanging parents sequences root)
          ∙ hanging-marked there some max greater (sequence_at sequences) (λ x tries _.
          omega (arith, over-most (λ k. only (on (suc k) root) x) x tries (λ k _. split (on (suc k) root) (λ e. rw e (omega arith)) (λ e. rw e (omega arith)))))
          ∙ sym (highest-along sequences (mark_subtree parents sequences root))

      -- nothing is met again where the root is on no level but its own
      pub number-marked : ((level : ℕ) → 0 < level → level < n → on level root ≡ false)
          → length (hanging parents sequences root) ≡ length (mark_subtree parents sequences root)
      number-marked off =
          length-along (hanging parents sequences root)
          ∙ hanging-marked there some ◌+◌ adding (λ _. 1) (λ x tries l.
          rw (over_none ◌+◌ adding (λ k. only (on (suc k) root) x) tries (λ k b. rw (off (suc k) (omega arith) (omega arith)))) (omega arith))
          ∙ sym (length-along (mark_subtree parents sequences root))

  -- ---- how many at most

  own-level : root < n → length (all_below (on 0) n) ≡ 1
  unfolding on_level
  own-level l =
      length-along (all_below (on 0) n)
      ∙ along-below ◌+◌ adding (λ _. 1) (on 0) n
      ∙ over-one ◌+◌ adding (λ i. only (on 0 i) 1) n root l (λ k _ ne. rw (ne_eqb k root ne))
      ∙ rw (eq-eqb root root refl)

  -- itself, and n for each further level
  pub met-few : root < n → (levels : ℕ) → length (met parents sequences root (suc levels)) ≤ levels * n + 1
  unfolding met
  met-few l zero = omega (arith, own-level l, length-append (met parents sequences root 0) (all_below (on 0) n))
  met-few l (suc levels) = omega (
    arith,
    met-few l levels,
    all-few (on (suc levels)) n,
    length-append (met parents sequences root (suc levels)) (all_below (on (suc levels)) n),
    suc-mul levels n,
  )
