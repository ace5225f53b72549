-- Promotion as a call of a list.
use mathlib.Core.Path.{◌≡◌, refl, sym, ap, ◌∙◌}
use mathlib.Core.Logic.{◌≢◌, ◌⊎◌, inl, inr}
use mathlib.Core.Bool.{Bool, true, false, ◌||◌}
use Prim.Native.Nat.{ℕ}
use native.Mathlib.Omega.{arith}
use lib.Dec.{eqb}
use borrow.Author.Tests.{eqb-true}
use Rattle.rules.specs.Records.{NONE, Blocks}
use Rattle.rules.specs.Promotion.{activate, promoted}
use Rattle.rules.specs.Answers.{done}
use Rattle.rules.specs.Calls.{State, promote_call, answering, is_next, promoted_to, promote}
use Rattle.rules.specs.Promises.{parent, Active, OnLine, start, down, Sound}
use Rattle.rules.proofs.Splits.{split, same?, true-not-false}
use Rattle.rules.proofs.Kept.Table.{parent_of, is_occupied, Shape, occupied-ne, ne-occupied, none-empty}
use Rattle.rules.proofs.Kept.Frame.{Frame, All}
use Rattle.rules.proofs.Kept.Recomputed.{recomputed}
use Rattle.rules.proofs.Kept.Promote.{lit-here, lit-other, promote-frame}
use Rattle.rules.proofs.Kept.Walked.{its_blocks, its_heads, active_on, on-active}
use Rattle.rules.proofs.Kept.Border.{sound-good, good-sound}
use Rattle.rules.proofs.Kept.Went.{Went, turned-away}

or-true : (a b : Bool) → (a || b) ≡ true → (a ≡ true) ⊎ (b ≡ true)
or-true true b e = inl refl
or-true false b e = inr e

module _ (s : State) (i : ℕ) (z : Sound s) (o : is_occupied (its_blocks s) i ≡ true) where
  abbrev t : Blocks
  t = its_blocks s

  f : Frame t (its_heads s) s.active_head All
  f = (sound-good s z).frame

  sh : Shape t
  sh = f.counts.shape

  abbrev u : State
  u = promoted_to s i

  here : Active u i
  unfolding promoted
  here = on-active u i (lit-here t i sh o)

  up : (j : ℕ) → Active s j → Active u j
  unfolding promoted
  up j a = same? j i (λ q. rw q here) (λ ne. on-active u j (lit-other t i sh o j ne ∙ active_on s j a))

  was : (j : ℕ) → j ≢ i → Active u j → Active s j
  unfolding promoted
  was j ne a = on-active s j (sym (lit-other t i sh o j ne) ∙ active_on u j a)

  module _ (acc : (s.active_head ≡ NONE) ⊎ (parent s i ≡ s.active_head)) where
    lift : (j : ℕ) → OnLine s j → OnLine u j
    unfolding promoted activate
    lift j (start a) = elim acc [
      | inl e ↦ true-not-false {b = is_occupied t NONE} (rw e at (ne-occupied t s.active_head (z.tree.line s.active_head a).0)) (none-empty t sh)
      | inr e ↦ rw (← e) (down i (start here) (rw e (up s.active_head a)))
    ]
    lift j (down k l a) = down k (lift k l) (up (parent s k) a)

    pub promoted-went : Went (promote_call i) s (answering u done)
    unfolding promoted activate
    promoted-went = record {
      sound = good-sound u (recomputed _ i All (its_heads s) (promote-frame t (its_heads s) s.active_head i f o acc))
          (λ j a. same? j i
          (λ q. rw q (occupied-ne t i o, start here))
          (λ ne. let w = z.tree.line j (was j ne a) in (w.0, lift j w.1)))
          (inr here)
          z.tree.names;
      stays = λ j a. (up j a, refl);
      new = λ j e _. let q : i ≡ j = cc in rw (← q) here;
      only = λ j a. same? j i
          (λ q. inr (ap promote_call (sym q), λ n e. let c : ◌≡◌ {A = ℕ} 0 1 = cc in omega arith))
          (λ ne. inl (was j ne a));
      given = λ j name-was oj h. h oj;
    }

module _ (s : State) (i : ℕ) (z : Sound s) where
  next-is : is_next s.tables.blocks.parents s.active_head i ≡ true → (s.active_head ≡ NONE) ⊎ (parent s i ≡ s.active_head)
  unfolding is_next
  next-is e = elim (or-true (eqb s.active_head NONE) (eqb (parent_of (its_blocks s) i) s.active_head) e) [
    | inl k ↦ inl (eqb-true s.active_head NONE k)
    | inr k ↦ inr (eqb-true (parent_of (its_blocks s) i) s.active_head k)
  ]

  pub went-promote : Went (promote_call i) s (promote s i)
  unfolding promote
  went-promote = rw z.tree.shape (split (is_occupied (its_blocks s) i)
      (λ o. split (is_next s.tables.blocks.parents s.active_head i)
      (λ e. rw (o, e) (promoted-went s i z o (next-is e)))
      (λ e. rw (o, e) (turned-away (promote_call i) s 8 z)))
      (λ o. rw o (turned-away (promote_call i) s 3 z)))
