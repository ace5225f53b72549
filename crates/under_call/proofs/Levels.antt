-- The way down by calls meets what the rule lists level by level.
use mathlib.Core.Path.{◌≡◌, refl, sym, ap, ◌∙◌}
use mathlib.Core.Bool.{Bool, true, false}
use mathlib.Core.List.{List}
use Prim.Native.Nat.{ℕ, zero, suc, ◌≤◌, ◌<◌}
use lib.Dec.{eqb}
use borrow.Author.Tests.{eq-eqb, ne_eqb}
use Rattle.rules.specs.Records.{slots_of, parent_at, occupied}
use Rattle.rules.specs.BlockTable.{child_of}
use Rattle.rules.specs.Under.{on_level, met}
use Rattle.rules.proofs.Splits.{split, same?, less?, and-true, true-not-false}
use Rattle.rules.proofs.Sums.{Joins, over, along, only, over-ext, over_none, over-one, over-swap, over_first, over-only}
use Rattle.rules.proofs.Under.{on-own, on-empty, on-up, met-over}
use Rattle.under_call.specs.Lists.{children_below, down}

module _ (op : ℕ → ℕ → ℕ) (j : Joins op) (own : ℕ → ℕ) (parents sequences : List ℕ) where
  abbrev n : ℕ
  n = slots_of sequences

  abbrev child : ℕ → ℕ → Bool
  child i k = child_of parents sequences i k

  children-over : (f : ℕ → ℕ) (i k : ℕ) → children_below op f parents sequences i k ≡ over op (λ x. only (child i x) (f x)) k
  unfolding children_below over
  children-over f i zero = refl
  children-over f i (suc k) = split (child i k)
      (λ e. rw (e, children-over f i k))
      (λ e. rw (e, children-over f i k) (sym (j.none (over op (λ x. only (child i x) (f x)) k))))

  own-child : (root i : ℕ) → on_level parents sequences root 1 i ≡ child root i
  unfolding on_level child_of
  own-child root i = refl

  only_none : (b : Bool) → only b 0 ≡ 0
  only_none true = refl
  only_none false = refl

  module _ (out : (i : ℕ) → n ≤ i → occupied sequences i ≡ false) where
    child-below : (root i : ℕ) → child root i ≡ true → i < n
    unfolding child_of
    child-below root i e = less? i n (λ l. l)
        (λ l. true-not-false {b = occupied sequences i} (and-true (occupied sequences i) (eqb (parent_at parents i) root) e).0 (out i l))

    -- what stands on a level of the root stands on the level before of one of its children
    through : (root level i x : ℕ)
        → only (on_level parents sequences root (suc level) i) x ≡ over op (λ c. only (child root c) (only (on_level parents sequences c level i) x)) n
    through root zero i x = split (child root i)
        (λ e. let l = child-below root i e in
        rw (own-child root i, e) (sym (over-one op j (λ c. only (child root c) (only (on_level parents sequences c 0 i) x)) n i l
        (λ c _ ne. rw (on-own parents sequences c i, ne_eqb i c (λ q. ne (sym q))) (only_none (child root c)))
        ∙ rw (e, on-own parents sequences i i, eq-eqb i i refl))))
        (λ e. rw (own-child root i, e) (sym (over_none op j (λ c. only (child root c) (only (on_level parents sequences c 0 i) x)) n
        (λ c _. same? i c
        (λ q. rw (← q, e))
        (λ ne. rw (on-own parents sequences c i, ne_eqb i c ne) (only_none (child root c)))))))
    through root (suc level) i x = split (occupied sequences i)
        (λ o. rw (on-up parents sequences root (suc level) i o) (through root level (parent_at parents i) x
        ∙ over-ext op (λ c. only (child root c) (only (on_level parents sequences c level (parent_at parents i)) x))
        (λ c. only (child root c) (only (on_level parents sequences c (suc level) i) x)) n
        (λ c _. rw (on-up parents sequences c level i o) refl)))
        (λ o. rw (on-empty parents sequences root (suc level) i o) (sym (over_none op j (λ c. only (child root c) (only (on_level parents sequences c (suc level) i) x)) n
        (λ c _. rw (on-empty parents sequences c level i o) (only_none (child root c))))))

    abbrev level-over : ℕ → ℕ → ℕ
    level-over root level = over op (λ i. only (on_level parents sequences root level i) (own i)) n

    -- a level of the root, by the levels of its children
    next_level : (root level : ℕ) → level-over root (suc level) ≡ over op (λ c. only (child root c) (level-over c level)) n
    next_level root level =
        over-ext op (λ i. only (on_level parents sequences root (suc level) i) (own i))
        (λ i. over op (λ c. only (child root c) (only (on_level parents sequences c level i) (own i))) n) n
        (λ i _. through root level i (own i))
        ∙ over-swap op j (λ i c. only (child root c) (only (on_level parents sequences c level i) (own i))) n n
        ∙ over-ext op (λ c. over op (λ i. only (child root c) (only (on_level parents sequences c level i) (own i))) n)
        (λ c. only (child root c) (level-over c level)) n
        (λ c _. over-only op j (child root c) (λ i. only (on_level parents sequences c level i) (own i)) n)

    own-level : (root : ℕ) → root < n → level-over root 0 ≡ own root
    own-level root l =
        over-one op j (λ i. only (on_level parents sequences root 0 i) (own i)) n root l
        (λ k _ ne. rw (on-own parents sequences root k, ne_eqb k root ne))
        ∙ rw (on-own parents sequences root root, eq-eqb root root refl)

    down-over : (levels root : ℕ) → root < n → down op own parents sequences levels root ≡ over op (level-over root) levels
    unfolding down over
    down-over zero root l = refl
    down-over (suc levels) root l =
        ap (op (own root)) (children-over (down op own parents sequences levels) root n
        ∙ over-ext op (λ c. only (child root c) (down op own parents sequences levels c)) (λ c. over op (λ k. only (child root c) (level-over c k)) levels) n
        (λ c b. rw (down-over levels c b) (sym (over-only op j (child root c) (level-over c) levels)))
        ∙ over-swap op j (λ c k. only (child root c) (level-over c k)) n levels
        ∙ over-ext op (λ k. over op (λ c. only (child root c) (level-over c k)) n) (λ k. level-over root (suc k)) levels
        (λ k _. sym (next_level root k)))
        ∙ rw (← own-level root l) (sym (over_first op j (level-over root) levels))

    pub down-met : (levels root : ℕ) → root < n → down op own parents sequences levels root ≡ along op own (met parents sequences root levels)
    down-met levels root l = down-over levels root l ∙ sym (met-over parents sequences root op j own levels)
