-- The new block among the others: without parent, on a head, or on a block that is no head.
use mathlib.Core.Path.{◌≡◌, refl, sym, ap, ◌∙◌}
use mathlib.Core.Logic.{◌≢◌}
use mathlib.Core.Bool.{true, false}
use mathlib.Core.List.{List}
use Rattle.std.specs.Prelude.{None}
use Prim.Native.Nat.{ℕ, suc, ◌+◌, ◌<◌, max, min}
use native.Mathlib.Omega.{arith}
use lib.IntN.{pos}
use Rattle.rules.specs.Records.{NONE, Blocks, Heads}
use Rattle.rules.specs.BlockTable.{adjusted, adjust_counts, adjust, max_count}
use Rattle.rules.specs.Anchor.{Anchor}
use Rattle.rules.specs.Caches.{slot_of_head}
use Rattle.rules.specs.Promises.{children_of}
use Rattle.rules.proofs.Splits.{same?, true-not-false}
use Rattle.rules.proofs.Kept.Table.{count_of, is_occupied, is_active, set_count, Shape, Kept, occupied-real}
use Rattle.rules.proofs.Kept.Slots.{But, but-parent, but-count, but-chain, but-occupied, count-but, count-here, count-kids, but-voids}
use Rattle.rules.proofs.Kept.Ends.{Ends, located, anchor-ends}
use Rattle.rules.proofs.Kept.Steady.{ends-move, ends_same}
use Rattle.rules.proofs.Kept.Seats.{tip_of, in_use, kept, use-lt, Seat, seat-tip, seat-use, seat-kept, seat-taken, seat-blanks}
use Rattle.rules.proofs.Kept.Frame.{Frame, Good, All, Chained, head-none, seat-apart}
use Rattle.rules.proofs.Kept.Insert.{insert, Fits, insert-but, insert-occupied, insert-chain, insert-count, unnamed, parent-not-self, insert-kids, insert-kids-other, insert-kids-parent, insert-linked, insert-voids}

-- a count that rises by one, and stops at 255
unfoldable pub raise : ℕ → ℕ
raise c = min max_count (c + 1)

pub raised : (t : Blocks) (i : ℕ) → is_occupied t i ≡ true → adjust t i (pos 1) ≡ set_count t i (raise (count_of t i))
unfolding adjust adjust_counts adjusted raise
raised t i o = rw o

pub raise-suc : (c : ℕ) → c < max_count → raise c ≡ suc c
unfolding raise
raise-suc c l = omega arith

module _ (t : Blocks) (h : Heads) (active_head x q : ℕ) (hash : List ℕ) (p : ℕ) (g : Good t h active_head All) (f : Fits t x q hash p) where
  abbrev u : Blocks
  u = insert t x q hash p

  k : Kept t
  k = g.frame.counts

  but : But t u x
  but = insert-but t x q hash p k f

  old : (j : ℕ) → is_occupied t j ≡ true → j ≢ x
  old j o e = true-not-false {b = is_occupied t x} (rw e at o) f.free

  occ : (j : ℕ) → j ≢ x → is_occupied u j ≡ is_occupied t j
  occ = but-occupied t u x but

  act : (j : ℕ) → j ≢ x → is_active u j ≡ is_active t j
  act = but-chain t u x but

  -- a count of another block than the parent is right still
  count-other : (j : ℕ) → j ≢ p → is_occupied u j ≡ true → is_active u j ≡ false → count_of u j ≡ max 1 (children_of u j)
  count-other j np o a = same? j x
      (λ e. rw e (omega (arith, insert-count t x q hash p k f, insert-kids t x q hash p k f)))
      (λ ne. rw (but-count t u x but j ne, insert-kids-other t x q hash p k f j (λ e. np (sym e)))
      (k.counted j (sym (occ j ne) ∙ o) (sym (act j ne) ∙ a)))

  chained : Chained u active_head
  chained i o a ne = same? i x
      (λ e. true-not-false {b = is_active u i} a (rw e (insert-chain t x q hash p k f)))
      (λ nx.
      let (c, oc, ac, pc) = g.frame.chained i (sym (occ i nx) ∙ o) (sym (act i nx) ∙ a) ne in
      let nc : c ≢ x = old c oc in
      (c, occ c nc ∙ oc, act c nc ∙ ac, but-parent t u x but c nc ∙ pc))

  ends : (j : ℕ) (a : Anchor) → is_occupied t j ≡ true → Ends t j a → Ends u j a
  ends j a o e = ends-move t u (λ k. k ≢ x)
      (λ j _ oj _. unnamed t x q hash p k f j oj)
      (λ j ne. (occ j ne, act j ne, but-parent t u x but j ne))
      j a (old j o) e

  -- what was childless, and is not the parent, is childless
  still : (s : ℕ) → in_use h s ≡ true → tip_of h s ≢ p → (is_occupied u (tip_of h s) ≡ true) × (children_of u (tip_of h s) ≡ 0)
  still s us np = let w = g.frame.tips s us in
      (occ (tip_of h s) (old (tip_of h s) w.0) ∙ w.0, insert-kids-other t x q hash p k f (tip_of h s) (λ e. np (sym e)) ∙ w.1)

  was : (j : ℕ) → children_of u j ≡ 0 → (j ≢ p) × (children_of t j ≡ 0)
  was j z =
      let np : j ≢ p = λ e. absurd (let zz = rw e at z in omega (arith, insert-kids-parent t x q hash p k f)) in
      (np, sym (insert-kids-other t x q hash p k f j (λ e. np (sym e))) ∙ z)

  headed : (i : ℕ) → i ≢ x → is_occupied u i ≡ true → is_active u i ≡ false → children_of u i ≡ 0 → (s : ℕ) × (in_use h s ≡ true) × (tip_of h s ≡ i)
  headed i ne o a z = g.frame.covered i tt (sym (occ i ne) ∙ o) (sym (act i ne) ∙ a) (was i z).1

  -- no parent: every table but the new block's head is right
  pub root-good : p ≡ NONE → Good u h active_head (λ i. i ≢ x)
  root-good e =
      let real : (j : ℕ) → is_occupied t j ≡ true → j ≢ p = λ j o c. occupied-real t j k.shape o (c ∙ e) in
      record {
        frame = record {
          counts = record {
            shape = but.shapes k.shape;
            linked = insert-linked t x q hash p k f;
            counted = λ j o a. count-other j (λ c. same? j x (λ d. parent-not-self t x q hash p k f (sym c ∙ d)) (λ ne. real j (sym (occ j ne) ∙ o) c)) o a;
          };
          voids = insert-voids t x q hash p k f g.frame.voids;
          roomy = g.frame.roomy;
          blanks = g.frame.blanks;
          tips = λ s us. still s us (real (tip_of h s) (g.frame.tips s us).0);
          apart = g.frame.apart;
          covered = headed;
          chained = chained;
        };
        anchored = λ s us. ends (tip_of h s) (kept h s) (g.frame.tips s us).0 (g.anchored s us);
      }

  -- the parent is a head, which moves up
  module _ (s : ℕ) (us : in_use h s ≡ true) (e : tip_of h s ≡ p) (v : Heads) (seat : Seat h v s x) where
    extend-frame : Frame u v active_head All
    extend-frame =
        let l = use-lt h s us in
        let op : is_occupied t p ≡ true = rw e at (g.frame.tips s us).0 in
        let zp : children_of t p ≡ 0 = rw e at (g.frame.tips s us).1 in
        let np : p ≢ x = parent-not-self t x q hash p k f in
        let ox : is_occupied u x ≡ true = insert-occupied t x q hash p k f in
        let real : x ≢ NONE = occupied-real u x (but.shapes k.shape) ox in
        let tipne : (r : ℕ) → in_use h r ≡ true → r ≢ s → tip_of h r ≢ p = λ r ur ne c. ne (g.frame.apart r s ur us (c ∙ sym e)) in
        record {
          counts = record {
            shape = but.shapes k.shape;
            linked = insert-linked t x q hash p k f;
            counted = λ j o a. same? j p
                (λ c. rw (c, but-count t u x but p np) (omega (arith, k.counted p op (sym (act p np) ∙ (rw c at a)), insert-kids-parent t x q hash p k f)))
                (λ nj. count-other j nj o a);
          };
          voids = insert-voids t x q hash p k f g.frame.voids;
          roomy = seat.roomy g.frame.roomy;
          blanks = seat-blanks h v s x seat (seat-taken h v s x seat l real) g.frame.blanks;
          tips = λ r ur. same? r s
              (λ c. rw (c, seat.here l) (ox, insert-kids t x q hash p k f))
              (λ ne. let u' : in_use h r ≡ true = sym (seat-use h v s x seat r ne) ∙ ur in rw (seat-tip h v s x seat r ne) (still r u' (tipne r u' ne)));
          apart = seat-apart h v s x seat g.frame.apart (λ r _ ur. old (tip_of h r) (g.frame.tips r ur).0) l;
          covered = λ i _ o a z. same? i x
              (λ c. (s, seat-taken h v s x seat l real, rw (seat.here l) (sym c)))
              (λ ne.
              let (r, ur, c) = headed i ne o a z in
              let nr : r ≢ s = λ d. (was i z).0 (sym c ∙ ap (tip_of h) d ∙ e) in
              (r, rw (seat-use h v s x seat r nr) ur, rw (seat-tip h v s x seat r nr) c));
          chained = chained;
        }

    pub extend-good : kept v s ≡ located u x → Good u v active_head All
    extend-good c = let g1 = extend-frame in
        record {
          frame = g1;
          anchored = λ r ur. same? r s
              (λ d. rw (d, seat.here (use-lt h s us), c) (anchor-ends u x g1.counts.shape g1.counts.linked (insert-occupied t x q hash p k f)))
              (λ ne.
              let u' : in_use h r ≡ true = sym (seat-use h v s x seat r ne) ∙ ur in
              rw (seat-tip h v s x seat r ne, seat-kept h v s x seat r ne) (ends (tip_of h r) (kept h r) (g.frame.tips r u').0 (g.anchored r u')));
        }

  -- the parent is no head: it counts one more
  pub fork-good : is_occupied t p ≡ true → slot_of_head h.tips p ≡ None → (is_active t p ≡ false → count_of t p < max_count)
      → Good (set_count u p (raise (count_of u p))) h active_head (λ i. i ≢ x)
  fork-good op n low =
      let c : ℕ = raise (count_of u p) in
      let np : p ≢ x = parent-not-self t x q hash p k f in
      let su : Shape u = but.shapes k.shape in
      let ou : is_occupied u p ≡ true = occ p np ∙ op in
      let tipne : (r : ℕ) → in_use h r ≡ true → tip_of h r ≢ p = λ r ur. head-none h p r g.frame.roomy n ur in
      let busy : is_active t p ≡ false → children_of t p ≢ 0 = λ a z. let (s, us, e) = g.frame.covered p tt op a z in tipne s us e in
      record {
        frame = record {
          counts = record {
            shape = (count-but u p c).shapes su;
            linked = insert-linked t x q hash p k f;
            counted = λ j o a. rw count-kids (same? j p
                (λ e.
                let ap' : is_active t p ≡ false = sym (act p np) ∙ (rw e at a) in
                let m = k.counted p op ap' in
                let b = busy ap' in
                let lo = low ap' in
                rw (e, count-here u p c su ou, but-count t u x but p np, raise-suc (count_of t p) lo) (omega (arith, insert-kids-parent t x q hash p k f)))
                (λ ne. rw (but-count u (set_count u p c) p (count-but u p c) j ne) (count-other j ne o a)));
          };
          voids = but-voids u (set_count u p c) p (count-but u p c) ou (insert-voids t x q hash p k f g.frame.voids);
          roomy = g.frame.roomy;
          blanks = g.frame.blanks;
          tips = λ s us. let w = still s us (tipne s us) in (w.0, rw count-kids w.1);
          apart = g.frame.apart;
          covered = λ i ne o a z. headed i ne o a (rw count-kids at z);
          chained = chained;
        };
        anchored = λ s us. ends_same u (set_count u p c) (λ _. (refl, refl, refl)) (tip_of h s) (kept h s) (ends (tip_of h s) (kept h s) (g.frame.tips s us).0 (g.anchored s us));
      }
