-- The three passes over the counts give what the rule says, cell by cell, on every table.
use Rattle.std.specs.Prelude.{if◌then◌else◌}
use Rattle.std.proofs.lemmas.Grind.{common_steps}
use mathlib.Core.Path.{◌≡◌, refl, sym, ◌∙◌}
use mathlib.Core.Bool.{true, false, ◌&&◌}
use mathlib.Core.List.{List}
use Prim.Native.Nat.{ℕ, zero, suc, ◌+◌, ◌<◌, min, max}
use native.Mathlib.Omega.{arith}
use borrow.Author.Tests.{le-ltb}
use lib.Dec.{ltb}
use lib.ListN.{length, get_or, set}
use lib.Seq.{ext_get_or}
use Rattle.rules.specs.Common.{count_below, in_order}
use Rattle.rules.specs.Records.{slots_of, occupied}
use Rattle.rules.specs.BlockTable.{child_of, children, adjusted, adjust_counts, set_occupied, max_count}
use Rattle.rules.specs.Removal.{recount, recount_all}
use Rattle.rules.proofs.Splits.{split}
use Rattle.rules.proofs.Each.{each-length}
use Rattle.recount.specs.Passes.{clear_count, count_child, raise_count}

-- ---- a pass in which each occupied slot's turn sets its own count, by what it was

module _ (s : List ℕ) (act : ℕ → List ℕ → List ℕ) (value : ℕ → ℕ → ℕ)
    (own : (j : ℕ) (l : List ℕ) → act j l ≡ (if occupied s j then set l j (value j (get_or l j 0)) else l)) where
  own-length : (k : ℕ) (l : List ℕ) → length (in_order act k l) ≡ length l
  own-length = each-length act (λ j l. grind (arith, common_steps, own j l))

  own-cell : (k i : ℕ) (l : List ℕ) → i < length l
      → get_or (in_order act k l) i 0 ≡ (if ltb i k && occupied s i then value i (get_or l i 0) else get_or l i 0)
  unfolding in_order
  own-cell zero i l h = rw (le-ltb i 0 (omega arith))
  own-cell (suc k) i l h =
      grind (arith, common_steps, own k (in_order act k l), own-length k l, own-cell k i l h)

clear-own : (s : List ℕ) (j : ℕ) (l : List ℕ) → clear_count s j l ≡ (if occupied s j then set l j 0 else l)
unfolding clear_count set_occupied
clear-own s j l = refl

raise-own : (s : List ℕ) (j : ℕ) (l : List ℕ) → raise_count s j l ≡ (if occupied s j then set l j (max 1 (get_or l j 0)) else l)
unfolding raise_count
raise-own s j l = grind (arith, common_steps)

-- ---- one more for each child, up to 255

module _ (p s : List ℕ) where
  child-length : (k : ℕ) (l : List ℕ) → length (in_order (count_child p s) k l) ≡ length l
  unfolding count_child adjust_counts
  child-length = each-length (count_child p s) (λ j l. grind (arith, common_steps))

  child-cell : (j i : ℕ) (l : List ℕ) → i < length l → get_or (count_child p s j l) i 0
      ≡ (if child_of p s i j && (ltb i (slots_of s) && occupied s i) then min max_count (get_or l i 0 + 1) else get_or l i 0)
  unfolding count_child adjust_counts adjusted child_of
  child-cell j i l h = grind (arith, common_steps)

  tallied : (k i : ℕ) (l : List ℕ) → i < length l → (ltb i (slots_of s) && occupied s i) ≡ true → get_or l i 0 ≡ 0
      → get_or (in_order (count_child p s) k l) i 0 ≡ min max_count (count_below (child_of p s i) k)
  unfolding in_order count_below
  tallied zero i l h o z = z
  tallied (suc k) i l h o z =
      grind (arith, child-cell k i (in_order (count_child p s) k l), child-length k l, tallied k i l h o z)

  -- an empty slot, and what is no slot, is not counted for
  kept : (k i : ℕ) (l : List ℕ) → i < length l → (ltb i (slots_of s) && occupied s i) ≡ false
      → get_or (in_order (count_child p s) k l) i 0 ≡ get_or l i 0
  unfolding in_order
  kept zero i l h o = refl
  kept (suc k) i l h o = grind (arith, child-cell k i (in_order (count_child p s) k l), child-length k l, kept k i l h o)

-- ---- the passes

module _ (p s c : List ℕ) where
  abbrev n : ℕ
  n = slots_of s

  abbrev cleared : List ℕ
  cleared = in_order (clear_count s) n c

  abbrev counted : List ℕ
  counted = in_order (count_child p s) n cleared

  abbrev ruled : ℕ → ℕ → ℕ
  ruled j x = min max_count (max 1 (children p s j))

  recount-own : (j : ℕ) (l : List ℕ) → recount p s j l ≡ (if occupied s j then set l j (ruled j (get_or l j 0)) else l)
  unfolding recount
  recount-own j l = refl

  cleared-length : length cleared ≡ length c
  cleared-length = own-length s (clear_count s) (λ j x. 0) (clear-own s) n c

  counted-length : length counted ≡ length c
  counted-length = child-length p s n cleared ∙ cleared-length

  raised-length : length (in_order (raise_count s) n counted) ≡ length c
  raised-length = own-length s (raise_count s) (λ j x. max 1 x) (raise-own s) n counted ∙ counted-length

  cell : (i : ℕ) → i < length c → get_or (in_order (raise_count s) n counted) i 0 ≡ get_or (in_order (recount p s) n c) i 0
  unfolding children
  cell i h =
      let few : i < length cleared = omega (arith, cleared-length) in
      let a = own-cell s (clear_count s) (λ j x. 0) (clear-own s) n i c h in
      let b = own-cell s (raise_count s) (λ j x. max 1 x) (raise-own s) n i counted (omega (arith, counted-length)) in
      let d = own-cell s (recount p s) ruled recount-own n i c h in
      split (ltb i n && occupied s i)
      (λ o. grind (arith, a, b, d, tallied p s n i cleared few o (rw (a, o))))
      (λ o. grind (arith, a, b, d, kept p s n i cleared few o))

  pub three_passes : in_order (raise_count s) n counted ≡ recount_all p s c
  unfolding recount_all
  three_passes = ext_get_or 0 _ _ (raised-length ∙ sym (own-length s (recount p s) ruled recount-own n c))
      (λ i h. cell i (omega (arith, raised-length)))
