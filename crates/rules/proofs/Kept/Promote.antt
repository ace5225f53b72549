-- Promotion keeps both tables (01, "Promotion").
use mathlib.Core.Path.{◌≡◌, refl, sym, ◌∙◌, subst}
use mathlib.Core.Logic.{◌≢◌, ◌⊎◌, inl, inr}
use mathlib.Core.Bool.{true, false}
use Prim.Native.Nat.{ℕ, zero, suc, ◌%◌, ◌<◌}
use native.Mathlib.Omega.{arith}
use lib.ListN.{length, length-set}
use lib.Seq.{get_or-set_same, get_or-set_other, set-set}
use borrow.Author.Tests.{eq-eqb}
use Rattle.rules.specs.Records.{NONE, Blocks, Heads, active, flags_at, with_status, block_at}
use Rattle.rules.specs.BlockTable.{set_occupied, set_on_active_chain, set_status}
use Rattle.rules.specs.Promotion.{activate}
use Rattle.rules.specs.Promises.{children_of}
use Rattle.rules.proofs.Splits.{same?, true-not-false}
use Rattle.rules.proofs.Kept.Table.{seq_of, parent_of, is_occupied, is_active, Shape, occupied-lt, occupied-real, parent-there}
use Rattle.rules.proofs.Kept.Slots.{But, but-chain, but-voids}
use Rattle.rules.proofs.Kept.Ends.{height, height-falls}
use Rattle.rules.proofs.Kept.Frame.{Frame, All}

module _ (t : Blocks) (i : ℕ) (s : Shape t) (o : is_occupied t i ≡ true) where
  inside : i < length t.flags
  inside = let l = occupied-lt t i o in let e = s.flagged in omega arith

  pub lit-but : But t (activate t i) i
  unfolding activate set_status set_on_active_chain set_occupied block_at
  lit-but = rw o (record {
    shapes = λ s. record { some = s.some; small = s.small; parents = s.parents; counts = s.counts; flagged = simp length-set s.flagged; hashed = s.hashed };
    sizes = refl;
    rest = λ j ne. rw (set-set t.flags i _ _, get_or-set_other t.flags i j _ 0 ne);
  })

  lit-odd : flags_at (activate t i).flags i % 2 ≡ 1
  unfolding activate set_status set_on_active_chain set_occupied with_status
  lit-odd = rw (o, set-set t.flags i _ _, get_or-set_same t.flags i _ 0 inside) (rw (get_or-set_same t.flags i _ 0 inside) (omega arith))

  pub lit-here : is_active (activate t i) i ≡ true
  unfolding active
  lit-here = eq-eqb (flags_at (activate t i).flags i % 2) 1 lit-odd

  pub lit-other : (j : ℕ) → j ≢ i → is_active (activate t i) j ≡ is_active t j
  lit-other j ne = but-chain t (activate t i) i lit-but j ne

lit-kids : (t : Blocks) (i k : ℕ) → children_of (activate t i) k ≡ children_of t k
unfolding children_of activate
lit-kids t i k = refl

-- with no active head nothing is active
none-active : (f : ℕ) (t : Blocks) (h : Heads) (i : ℕ) → Frame t h NONE All → is_occupied t i ≡ true → is_active t i ≡ true → height t i < f → ⊥
none-active zero t h i g o a l = omega arith
none-active (suc f) t h i g o a l =
    let real = occupied-real t i g.counts.shape o in
    let (c, oc, ac, pc) = g.chained i o a real in
    let n : parent_of t c ≢ NONE = rw pc real in
    let fall : seq_of t i < seq_of t c = omega (arith, rw pc at (parent-there t c g.counts.linked oc n).1) in
    none-active f t h c g oc ac (omega (arith, height-falls t i c oc fall))

pub promote-frame : (t : Blocks) (h : Heads) (active_head i : ℕ) → Frame t h active_head All → is_occupied t i ≡ true → (active_head ≡ NONE) ⊎ (parent_of t i ≡ active_head) → Frame (activate t i) h i All
unfolding activate
promote-frame t h active_head i g o acc =
    let s = g.counts.shape in
    let u : Blocks = activate t i in
    let b = lit-but t i s o in
    let was : (j : ℕ) → is_active u j ≡ false → is_active t j ≡ false = λ j a.
    let ne : j ≢ i = λ q. true-not-false {b = is_active u j} (rw q (lit-here t i s o)) a in
    sym (lit-other t i s o j ne) ∙ a in
    let up : (j : ℕ) → is_active t j ≡ true → is_active u j ≡ true = λ j a. same? j i
    (λ q. rw q (lit-here t i s o))
    (λ ne. lit-other t i s o j ne ∙ a) in
    record {
      counts = record {
        shape = b.shapes s;
        linked = g.counts.linked;
        counted = λ j oj a. rw lit-kids (g.counts.counted j oj (was j a));
      };
      voids = but-voids t u i b o g.voids;
      roomy = g.roomy;
      blanks = g.blanks;
      tips = λ r ur. let p = g.tips r ur in (p.0, rw lit-kids p.1);
      apart = g.apart;
      covered = λ j _ oj a z. g.covered j tt oj (was j a) (rw lit-kids at z);
      chained = λ j oj a ne.
          let aj : is_active t j ≡ true = sym (lit-other t i s o j ne) ∙ a in
          same? j active_head
          (λ q. elim acc [
            | inl e ↦ absurd (none-active (suc (height t j)) t h j (subst (λ (k : ℕ). Frame t h k All) e g) oj aj (omega arith))
            | inr e ↦ (i, o, lit-here t i s o, e ∙ sym q)
          ])
          (λ nt. let (c, oc, ac, pc) = g.chained j oj aj nt in (c, oc, up c ac, pc));
    }
