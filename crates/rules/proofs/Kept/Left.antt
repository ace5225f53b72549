-- The blocks that removal leaves (01, "Removal").
use mathlib.Core.Path.{◌≡◌, sym, ◌∙◌}
use mathlib.Core.Logic.{◌≢◌, inl, inr}
use mathlib.Core.Bool.{true, false}
use mathlib.Core.List.{List}
use Prim.Native.Nat.{ℕ, suc, ◌≤◌}
use native.Mathlib.Omega.{arith}
use lib.Dec.{eqb}
use Rattle.rules.specs.Records.{NONE, Blocks, Heads, occupied}
use Rattle.rules.specs.BlockTable.{mark_subtree}
use Rattle.rules.specs.Removal.{listed, free_all}
use Rattle.rules.specs.Calls.{holds_active}
use Rattle.rules.specs.Promises.{is_child, children_of}
use Rattle.rules.proofs.Splits.{split, same?, and-true, and_both, true-not-false}
use Rattle.rules.proofs.Kept.Counting.{count-mono}
use Rattle.rules.proofs.Kept.Table.{childless, size, parent_of, is_occupied, is_active, Shape, Linked, occupied-real, parent-there}
use Rattle.rules.proofs.Kept.Ends.{leaf, height, some-child}
use Rattle.rules.proofs.Kept.Slots.{Same, same_block, Voids}
use Rattle.rules.proofs.Kept.Seats.{tip_of, in_use}
use Rattle.rules.proofs.Kept.Frame.{Frame, All, Chained}
use Rattle.rules.proofs.Kept.Mark.{mark, mark-root, mark-parent, mark-above, mark-listed, mark-off}
use Rattle.rules.proofs.Kept.Sweep.{Swept, swept}

-- u is what is left of t when the listed blocks, the subtree of r, have gone
pub record Left (t u : Blocks) (h : Heads) (active_head r : ℕ) (deleted : List ℕ) : Type 0 where
  pub shape : Shape u
  pub voids : Voids u
  pub linked : Linked u
  pub chained : Chained u active_head
  pub stay : (j : ℕ) → listed deleted j ≡ false → Same t u j
  -- what is left is not listed, and was there
  pub there : (j : ℕ) → is_occupied u j ≡ true → (listed deleted j ≡ false) × (is_occupied t j ≡ true)
  pub off : (j : ℕ) → listed deleted j ≡ true → is_active t j ≡ false
  pub fewer : (k : ℕ) → children_of u k ≤ children_of t k
  -- a block that lost its last child is the root's parent
  pub lost_last : (i : ℕ) → is_occupied u i ≡ true → children_of u i ≡ 0 → children_of t i ≢ 0 → parent_of t r ≡ i
  -- some head stood on the subtree
  pub some_lost : (k : ℕ) × (in_use h k ≡ true) × (listed deleted (tip_of h k) ≡ true)

module _ (t : Blocks) (h : Heads) (active_head r : ℕ) (f : Frame t h active_head All) (root : is_occupied t r ≡ true) (free : holds_active t r ≡ false) where
  s : Shape t
  s = f.counts.shape

  l : Linked t
  l = f.counts.linked

  abbrev deleted : List ℕ
  deleted = mark_subtree t.parents t.sequences r

  abbrev u : Blocks
  u = free_all deleted t

  marked : (j : ℕ) → listed deleted j ≡ mark t r s l root j
  marked = mark-listed t r s l root

  off : (j : ℕ) → listed deleted j ≡ true → is_active t j ≡ false
  off j m = mark-off t r s l root free j (sym (marked j) ∙ m)

  w : Swept deleted t u
  w = swept deleted t

  stay : (j : ℕ) → listed deleted j ≡ false → Same t u j
  stay j m = same_block t u j (w.stay j m)

  there : (j : ℕ) → is_occupied u j ≡ true → (listed deleted j ≡ false) × (is_occupied t j ≡ true)
  there j o =
      let m : listed deleted j ≡ false = split (listed deleted j) (λ e. true-not-false {b = is_occupied u j} o (w.gone j e)) (λ e. e) in
      (m, sym (stay j m).hold ∙ o)

  -- a block other than the root is listed exactly when its parent is
  parent_listed : (j : ℕ) → j ≢ r → is_occupied t j ≡ true → parent_of t j ≢ NONE → listed deleted j ≡ listed deleted (parent_of t j)
  parent_listed j ne o np = marked j ∙ mark-parent t r s l root j ne o np ∙ sym (marked (parent_of t j))

  left-linked : Linked u
  left-linked j o =
      let (m, ot) = there j o in
      let p = stay j m in
      rw (p.parent, p.seq) (same? (parent_of t j) NONE
      (λ e. inl e)
      (λ ne.
      let q = parent-there t j l ot ne in
      let nr : j ≢ r = λ e. true-not-false {b = listed deleted j} (rw e (marked r ∙ mark-root t r s l root)) m in
      let k = stay (parent_of t j) (sym (parent_listed j nr ot ne) ∙ m) in
      inr (k.hold ∙ q.0, rw k.seq q.1)))

  fewer : (k : ℕ) → children_of u k ≤ children_of t k
  unfolding children_of occupied
  fewer k = rw w.sizes (count-mono (is_child u k) (is_child t k) (size t) (λ j _ e.
      let c = and-true (is_occupied u j) (eqb (parent_of u j) k) e in
      let (m, o) = there j c.0 in
      and_both (is_occupied t j) (eqb (parent_of t j) k) o (rw (stay j m).parent at c.1)))

  lost-last : (i : ℕ) → is_occupied u i ≡ true → children_of u i ≡ 0 → children_of t i ≢ 0 → parent_of t r ≡ i
  lost-last i o z nz = some-child t i (omega arith) (λ c oc pc.
      let (mi, oi) = there i o in
      split (listed deleted c)
      (λ mc. same? c r
      (λ q. rw q at pc)
      (λ ne. true-not-false {b = listed deleted i} (rw pc at (sym (parent_listed c ne oc (rw pc (occupied-real t i s oi))) ∙ mc)) mi))
      (λ mc. let k = stay c mc in absurd (childless u i c z (k.hold ∙ oc) (k.parent ∙ pc))))

  left-chained : Chained u active_head
  left-chained i o a ne =
      let (m, oi) = there i o in
      let (c, oc, ac, pc) = f.chained i oi (sym (stay i m).chain ∙ a) ne in
      let k = stay c (split (listed deleted c) (λ mc. true-not-false {b = is_active t c} ac (off c mc)) (λ e. e)) in
      (c, k.hold ∙ oc, k.chain ∙ ac, k.parent ∙ pc)

  some-lost : (k : ℕ) × (in_use h k ≡ true) × (listed deleted (tip_of h k) ≡ true)
  some-lost =
      let (j, oj, z, x) = leaf (suc (height t r)) t r l s root (omega arith) in
      let m = marked j ∙ mark-above t r s l root j x in
      let (k, uk, e) = f.covered j tt oj (off j m) z in
      (k, uk, rw e m)

  pub left_is : Left t u h active_head r deleted
  left_is = record {
    shape = w.shapes s;
    voids = w.voids s f.voids;
    linked = left-linked;
    chained = left-chained;
    stay = stay;
    there = there;
    off = off;
    fewer = fewer;
    lost_last = lost-last;
    some_lost = some-lost;
  }
