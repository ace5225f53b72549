-- A late tail is linked to the new block: one parent cell changes from NONE.
use mathlib.Core.Path.{◌≡◌, refl, sym, ap, ◌∙◌}
use mathlib.Core.Logic.{◌≢◌, inl, inr}
use mathlib.Core.Bool.{true, false, not}
use Rattle.std.specs.Prelude.{None}
use Prim.Native.Nat.{ℕ, suc}
use native.Mathlib.Omega.{arith}
use lib.Dec.{eqb}
use borrow.Author.Tests.{eq-eqb, ne_eqb}
use Rattle.rules.specs.Records.{NONE, Blocks, Heads, clear}
use Rattle.rules.specs.Anchor.{Anchor, tail}
use Rattle.rules.specs.Caches.{slot_of_head}
use Rattle.rules.specs.Promises.{is_child, children_of}
use Rattle.rules.proofs.Splits.{same?, and_false_r}
use Rattle.rules.proofs.Kept.Table.{seq_of, parent_of, count_of, is_occupied, is_active, set_count, set_parent, Shape, Linked, occupied-lt, occupied-ne, occupied-real}
use Rattle.rules.proofs.Kept.Slots.{But, but-parent, but-count, but-kids, but-gains, count-but, count-here, count-kids, parent-but, parent-here, Voids, but-voids}
use Rattle.rules.proofs.Kept.Ends.{Ends, at-active, at-root, goes_on}
use Rattle.rules.proofs.Kept.Seats.{tip_of, in_use, kept, clear-seat, clear-other, clear-blanks, seat-tip, seat-use}
use Rattle.rules.proofs.Kept.Frame.{Frame, Late, Apt, All, Chained, head-none, anchor?}

-- the tail T waits for x
pub record Waits (t : Blocks) (x T : ℕ) : Type 0 where
  pub there : is_occupied t T ≡ true
  pub orphan : parent_of t T ≡ NONE
  pub next : suc (seq_of t x) ≡ seq_of t T
  pub home : is_occupied t x ≡ true
  pub fresh : is_active t x ≡ false

module _ (t : Blocks) (h : Heads) (active_head x T : ℕ) (g : Frame t h active_head All) (w : Waits t x T) where
  abbrev u : Blocks
  u = set_parent t T x

  shape : Shape t
  shape = g.counts.shape

  real : (j : ℕ) → is_occupied t j ≡ true → j ≢ NONE
  real j o = occupied-real t j shape o

  but : But t u T
  but = parent-but t T x

  here : parent_of u T ≡ x
  here = parent-here t T x shape w.there

  before : (k : ℕ) → k ≢ NONE → is_child t k T ≡ false
  before k n = rw (w.orphan, ne_eqb NONE k (λ q. n (sym q))) (and_false_r (not (eqb (seq_of t T) NONE)) false refl)

  -- only x has other children than before
  others : (j : ℕ) → is_occupied t j ≡ true → j ≢ x → children_of u j ≡ children_of t j
  others j o ne = but-kids t u T but j (rw (here, ne_eqb x j (λ q. ne (sym q))) (and_false_r (not (eqb (seq_of t T) NONE)) false refl) ∙ sym (before j (real j o)))

  more : children_of u x ≡ suc (children_of t x)
  more = but-gains t u T but x (occupied-lt t T w.there) (rw (here, ne_eqb (seq_of t T) NONE (occupied-ne t T w.there), eq-eqb x x refl)) (before x (real x w.home))

  linked : Linked u
  linked j o = same? j T
      (λ q. inr (rw (q, here) (w.home, w.next)))
      (λ ne. rw (but-parent t u T but j ne) (g.counts.linked j o))

  chained : Chained u active_head
  chained i o a ne =
      let (c, oc, ac, pc) = g.chained i o a ne in
      let nc : c ≢ T = λ q. real i o (sym pc ∙ ap (parent_of t) q ∙ w.orphan) in
      (c, oc, ac, but-parent t u T but c nc ∙ pc)

  voids : Voids u
  voids = but-voids t u T but w.there g.voids

  -- a head that is not of x is of a block whose children stay
  tips : (s : ℕ) → in_use h s ≡ true → tip_of h s ≢ x → (is_occupied u (tip_of h s) ≡ true) × (children_of u (tip_of h s) ≡ 0)
  tips s us ne = let p = g.tips s us in (p.0, others (tip_of h s) p.0 ne ∙ p.1)

  covered : (i : ℕ) → is_occupied u i ≡ true → is_active u i ≡ false → children_of u i ≡ 0 → (s : ℕ) × (in_use h s ≡ true) × (tip_of h s ≡ i) × (i ≢ x)
  covered i o a z =
      let ne : i ≢ x = λ q. absurd (let zz = rw q at z in omega (arith, more)) in
      let c = g.covered i tt o a (sym (others i o ne) ∙ z) in
      (c.0, c.1, c.2, ne)

  -- the first late child: the new block's own head goes, and its count stays 1
  pub merge : (s : ℕ) → in_use h s ≡ true → tip_of h s ≡ x → Frame u (clear h s) active_head All
  merge s us q =
      let tip : (r : ℕ) → r ≢ s → tip_of (clear h s) r ≡ tip_of h r = seat-tip h (clear h s) s NONE (clear-seat h s) in
      record {
        counts = record {
          shape = but.shapes shape;
          linked = linked;
          counted = λ j o a.
              let cj = g.counts.counted j o a in
              same? j x
              (λ e. let cx = rw e at cj in let z = rw q at (g.tips s us).1 in rw e (omega (arith, more)))
              (λ ne. rw (others j o ne) cj);
        };
        voids = voids;
        roomy = (clear-seat h s).roomy g.roomy;
        blanks = clear-blanks h s g.roomy us g.blanks;
        tips = λ r ur.
            let c = clear-other h s r ur in
            rw (tip r c.0) (tips r c.1 (λ e. c.0 (g.apart r s c.1 us (e ∙ sym q))));
        apart = λ r v ur uv e.
            let cr = clear-other h s r ur in
            let cv = clear-other h s v uv in
            g.apart r v cr.1 cv.1 (sym (tip r cr.0) ∙ e ∙ tip v cv.0);
        covered = λ i _ o a z.
            let (r, ur, e, nx) = covered i o a z in
            let ne : r ≢ s = λ p. nx (sym e ∙ ap (tip_of h) p ∙ q) in
            (r, rw (seat-use h (clear h s) s NONE (clear-seat h s) r ne) ur, rw (tip r ne) e);
        chained = chained;
      }

  -- a further one: the count rises by one
  pub fork : slot_of_head h.tips x ≡ None → Frame (set_count u x (suc (count_of t x))) h active_head All
  fork n =
      let c : ℕ = suc (count_of t x) in
      let cx = g.counts.counted x w.home w.fresh in
      let busy : children_of t x ≢ 0 = λ z. let (s, us, e) = g.covered x tt w.home w.fresh z in head-none h x s g.roomy n us e in
      record {
        counts = record {
          shape = (count-but u x c).shapes (but.shapes shape);
          linked = linked;
          counted = λ j o a. rw count-kids (same? j x
              (λ e. rw (e, count-here u x c (but.shapes shape) w.home) (omega (arith, more)))
              (λ ne. rw (but-count u (set_count u x c) x (count-but u x c) j ne, others j o ne) (g.counts.counted j o a)));
        };
        voids = but-voids u (set_count u x c) x (count-but u x c) w.home voids;
        roomy = g.roomy;
        blanks = g.blanks;
        tips = λ s us. let p = tips s us (head-none h x s g.roomy n us) in (p.0, rw count-kids p.1);
        apart = g.apart;
        covered = λ i _ o a z. let r = covered i o a (rw count-kids at z) in (r.0, r.1, r.2);
        chained = chained;
      }

  -- ---- walks

  -- a walk that goes on from j does not pass through T's cell
  on : (j : ℕ) → parent_of t j ≢ NONE → parent_of u j ≡ parent_of t j
  on j nj = but-parent t u T but j (λ q. nj (rw q w.orphan))

  -- a walk that does not end at T is as it was
  link-ends : (j : ℕ) (a : Anchor) → Ends t j a → a ≢ tail T → Ends u j a
  link-ends j a (at-active k o h) ne = at-active k o h
  link-ends j a (at-root k o h q) ne = at-root k o h (rw (but-parent t u T but k (λ e. ne (ap tail e))) q)
  link-ends j a (goes_on k o h q e) ne = goes_on k {a = a} o h (rw (on k q) q) (rw (on k q) (link-ends (parent_of t k) a e ne))

  -- a walk that ended at T is late now; every other ends where it did
  pub loose-link : Apt t h (Late t) → Apt u h (Late u)
  loose-link l s us = elim (l s us) [
    | inl e ↦ anchor? (kept h s)
        (λ i q. inl (link-ends (tip_of h s) (kept h s) e (λ c. let z : ◌≡◌ {A = ℕ} 0 1 = cc in absurd (omega arith))))
        (λ i q. same? i T
        (λ c. inr (T, q ∙ ap tail c, w.there, rw here (real x w.home)))
        (λ ne. inl (link-ends (tip_of h s) (kept h s) e (λ c. ne (let z : tail i ≡ tail T = sym q ∙ c in cc)))))
    | inr r ↦
        let ne : r.0 ≢ T = λ c. r.3 (ap (parent_of t) c ∙ w.orphan) in
        inr (r.0, r.1, r.2, rw (but-parent t u T but r.0 ne) r.3)
  ]
