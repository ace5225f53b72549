-- What each step of a walk keeps of what is remembered.
use Rattle.std.specs.Prelude.{None, Some}
use Rattle.std.proofs.lemmas.Bool.Decides.{nat_tests}
use Rattle.std.proofs.lemmas.Grind.{common_steps}
use mathlib.Core.Path.{◌≡◌}
use mathlib.Core.Logic.{◌≢◌}
use mathlib.Core.Bool.{Bool, true}
use mathlib.Core.List.{List}
use Prim.Native.Nat.{ℕ, suc, ◌≤◌, ◌<◌}
use native.Mathlib.Omega.{arith}
use lib.ListN.{length, get_or, set, replicate, get_or-eq_default}
use Rattle.rules.specs.Records.{NONE, slots_of, parent_at, occupied}
use Rattle.rules.specs.BlockTable.{reaches}
use Rattle.rules.proofs.Splits.{less?}
use Rattle.rules.proofs.Cells.{get_d_any}
use Rattle.rules.proofs.Walks.{reaches-root, reaches-empty, reaches_end, reaches-up}
use Rattle.subtree.specs.Known.{is_known, tells, above, told, at_once, Right}
use Rattle.subtree.specs.declared.Mark.{Mark}
use Rattle.subtree.specs.declared.Mark.TheVariants.{Unknown}
use Rattle.subtree.proofs.Steady.{told-above}

pub small-parents : (parents : List ℕ) → ((i : ℕ) → get_or parents i 0 ≤ NONE) → (i : ℕ) → parent_at parents i ≤ NONE
small-parents parents fits i = less? i (length parents)
    (λ h. rw (get_d_any parents i NONE 0 h) (fits i))
    (λ h. rw (get_or-eq_default parents NONE h) (omega arith))

module _ (parents sequences : List ℕ) (root : ℕ) (known : List Mark) where
  abbrev walk : ℕ → ℕ → Bool
  walk tries i = reaches parents sequences root tries i

  -- a walk goes on from an occupied slot that is not the root
  goes_on : (i next : ℕ) → above parents sequences root known i ≡ Some next
      → (i ≢ root) × (occupied sequences i ≡ true) × (parent_at parents i ≢ NONE) × (parent_at parents i ≡ next)
  unfolding above
  goes_on i next e = grind (arith, nat_tests)

  pub try-above : (tries i next : ℕ) → above parents sequences root known i ≡ Some next → walk (suc tries) i ≡ walk tries next
  try-above tries i next e = let u = goes_on i next e in rw (← u.3) (reaches-up parents sequences root tries i u.0 u.1 u.2)

  module _ (small : (i : ℕ) → parent_at parents i ≤ NONE) (r : Right parents sequences root known) where
    pub same_above : (i next : ℕ) → i < NONE → above parents sequences root known i ≡ Some next
        → (next < NONE) × (walk (slots_of sequences) i ≡ walk (slots_of sequences) next)
    same_above i next l e =
        let u = goes_on i next e in
        rw (← u.3) (omega (arith, u.2, small i), told-above parents sequences root small r.there i l u.0 u.1 u.2)

    -- the last slot of a walk tells what the rule gives
    pub end-told : (i : ℕ) → 0 < slots_of sequences → above parents sequences root known i ≡ None
        → walk (slots_of sequences) i ≡ tells (told root known i)
    unfolding above told
    end-told i l e =
        let n = slots_of sequences in
        let here = reaches-root parents sequences root n i l in
        let empty = reaches-empty parents sequences root n i l in
        let end = reaches_end parents sequences root n i l in
        grind (arith, nat_tests, r.right i)

    -- so does what is told without a walk
    pub at-once-told : (i : ℕ) (mark : Mark) → i < NONE → 0 < slots_of sequences → occupied sequences i ≡ true
        → at_once parents root known i ≡ mark → is_known mark ≡ true → walk (slots_of sequences) i ≡ tells mark
    unfolding at_once
    at-once-told i mark l h o e k =
        let n = slots_of sequences in
        let here = reaches-root parents sequences root n i h in
        let end = reaches_end parents sequences root n i h in
        let up = told-above parents sequences root small r.there i l in
        grind (arith, nat_tests, r.right i, r.right (parent_at parents i))

  -- a verdict that is what the rule gives may be written
  pub remembered : (i : ℕ) (mark : Mark) → Right parents sequences root known → walk (slots_of sequences) i ≡ tells mark
      → Right parents sequences root (set known i mark)
  remembered i mark r e = record {
    there = r.there;
    right = λ j h. grind (arith, common_steps, r.right j);
  }

pub nothing_known : (parents sequences : List ℕ) (root size : ℕ) → occupied sequences root ≡ true
    → Right parents sequences root (replicate size Unknown)
nothing_known parents sequences root size o = record {
  there = o;
  right = λ i h. grind (arith, common_steps);
}
