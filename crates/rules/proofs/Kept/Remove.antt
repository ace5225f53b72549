-- Removal keeps both tables (01, "Removal").
use mathlib.Core.Path.{◌≡◌, sym, ◌∙◌}
use mathlib.Core.Bool.{true, false}
use mathlib.Core.List.{List}
use Prim.Native.Nat.{ℕ}
use native.Mathlib.Omega.{arith}
use Rattle.rules.specs.Records.{NONE, Blocks, Heads}
use Rattle.rules.specs.BlockTable.{mark_subtree}
use Rattle.rules.specs.Removal.{recounted, listed, blocks_deleted, free_all, removed}
use Rattle.rules.specs.Calls.{holds_active}
use Rattle.rules.proofs.Splits.{split, true-not-false}
use Rattle.rules.proofs.Kept.Table.{is_occupied, is_active, occupied-real}
use Rattle.rules.proofs.Kept.Steady.{Steady}
use Rattle.rules.proofs.Kept.Frame.{Frame, Good, All}
use Rattle.rules.proofs.Kept.Leaves.{children-bound}
use Rattle.rules.proofs.Kept.Recomputed.{recomputed}
use Rattle.rules.proofs.Kept.Sweep.{recounted-kids, recounted-voids, recounted-kept}
use Rattle.rules.proofs.Kept.Left.{Left, left_is}
use Rattle.rules.proofs.Kept.HeadsLeft.{HeadsOf, h2, heads-left}

module _ (t u : Blocks) (h : Heads) (active_head r : ℕ) (deleted : List ℕ) (f : Frame t h active_head All) (lf : Left t u h active_head r deleted) (v : Heads) (hl : HeadsOf u v) where
  final : Frame (recounted u) v active_head All
  final = record {
    counts = recounted-kept u lf.shape lf.linked (λ i o.
        let (m, oi) = lf.there i o in
        let n = lf.fewer i in
        omega (arith, f.roomy.few, children-bound t h active_head All f (λ _. tt) i (occupied-real t i f.counts.shape oi)));
    voids = recounted-voids u lf.shape lf.voids;
    roomy = hl.roomy;
    blanks = hl.blanks;
    tips = λ k uk. let q = hl.tips k uk in (q.0, rw (recounted-kids u lf.shape) q.1);
    apart = hl.apart;
    covered = λ i _ o a z. hl.covered i o a (rw (recounted-kids u lf.shape) at z);
    chained = lf.chained;
  }

  steady-left : Steady NONE t (recounted u)
  steady-left = record {
    keeps = λ i o a.
        let k = lf.stay i (split (listed deleted i) (λ m. true-not-false {b = is_active t i} a (lf.off i m)) (λ e. e)) in
        (k.hold ∙ o, k.chain ∙ a, λ _. k.parent);
    back = λ i o a. let (m, oi) = lf.there i o in (oi, sym (lf.stay i m).chain ∙ a);
    same = λ i _ o. let (m, oi) = lf.there i o in let k = lf.stay i m in (oi, k.seq, k.hash);
  }

pub remove-done : (t : Blocks) (h : Heads) (active_head r : ℕ) → Good t h active_head All → is_occupied t r ≡ true → holds_active t r ≡ false
    → Good (removed (record { blocks = t; heads = h }) r).blocks (removed (record { blocks = t; heads = h }) r).heads active_head All
    × Steady NONE t (removed (record { blocks = t; heads = h }) r).blocks
unfolding removed blocks_deleted
remove-done t h active_head r g root free =
    let deleted = mark_subtree t.parents t.sequences r in
    let u : Blocks = free_all deleted t in
    let f = g.frame in
    let lf = left_is t h active_head r f root free in
    let v : Heads = h2 t u h active_head r deleted f lf in
    let hl = heads-left t u h active_head r deleted f lf in
    (recomputed _ active_head All v (final t u h active_head r deleted f lf v hl), steady-left t u h active_head r deleted f lf v hl)
