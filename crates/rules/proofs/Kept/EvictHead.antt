-- Eviction of a head that is not the active one keeps both tables; a full head table has such a head.
use mathlib.Core.Path.{◌≡◌, sym, ap, ◌∙◌}
use mathlib.Core.Logic.{◌≢◌}
use mathlib.Core.Bool.{true, not, ◌&&◌}
use mathlib.Core.List.{List}
use Rattle.std.specs.Prelude.{None, Some}
use Prim.Native.Nat.{ℕ, ◌<◌}
use native.Mathlib.Omega.{arith}
use lib.Dec.{eqb}
use borrow.Author.Tests.{eqb-false, ne_eqb, not-true}
use Rattle.rules.specs.Records.{NONE, Blocks, Heads, tip_at, slots_of, occupied, used, clear}
use Rattle.rules.specs.Eviction.{block_before, may_go, victim, evict_from, evict, evict_one}
use Rattle.rules.specs.Promises.{children_of}
use Rattle.rules.proofs.Splits.{same?, and-true, true-not-false}
use Rattle.rules.proofs.Best.{best-holds, best-misses}
use Rattle.rules.proofs.Kept.Table.{size, is_occupied, Shape, kids-slots}
use Rattle.rules.proofs.Kept.Freed.{Owed, Freed, all-freed, freed-kept}
use Rattle.rules.proofs.Kept.Steady.{freed-leaf, freed-back, freed-active, freed-childless, freed_ends}
use Rattle.rules.proofs.Kept.Seats.{room, tip_of, in_use, kept, Room, head-slots, clear-seat, clear-other, clear-blanks, seat-tip, seat-use, seat-kept}
use Rattle.rules.proofs.Kept.Frame.{Good, Apart}

module _ (t : Blocks) (h : Heads) (active_head : ℕ) (C : ℕ → Type 0) (g : Good t h active_head C) (v : ℕ) (uv : in_use h v ≡ true) (nv : tip_of h v ≢ active_head) where
  abbrev pub evicted : Blocks
  evicted = evict_from (size t) t (tip_of h v)

  owed : Owed t (tip_of h v)
  owed = let p = g.frame.tips v uv in
      record {
        shape = g.frame.counts.shape;
        linked = g.frame.counts.linked;
        voids = g.frame.voids;
        others = λ j _ oj aj. g.frame.counts.counted j oj aj;
        here = λ o a. omega (arith, g.frame.counts.counted (tip_of h v) o a);
      }

  pub trace : Freed t (tip_of h v) evicted
  trace = all-freed t (tip_of h v) owed

  stays : (s : ℕ) → s ≢ v → in_use h s ≡ true → (is_occupied evicted (tip_of h s) ≡ true) × (children_of evicted (tip_of h s) ≡ 0)
  stays s ne u = let p = g.frame.tips s u in
      freed-leaf t (tip_of h v) evicted trace (tip_of h s) (λ q. ne (g.frame.apart s v u uv q)) p.0 p.1

  pub evict-good : Good evicted (clear h v) active_head C
  evict-good =
      let k = freed-kept t (tip_of h v) evicted trace owed in
      let tip : (s : ℕ) → s ≢ v → tip_of (clear h v) s ≡ tip_of h s = seat-tip h (clear h v) v NONE (clear-seat h v) in
      let busy : (s : ℕ) → s ≢ v → in_use (clear h v) s ≡ in_use h s = seat-use h (clear h v) v NONE (clear-seat h v) in
      record {
        frame = record {
          counts = k.0;
          voids = k.1;
          roomy = (clear-seat h v).roomy g.frame.roomy;
          blanks = clear-blanks h v g.frame.roomy uv g.frame.blanks;
          tips = λ s u. let c = clear-other h v s u in rw (tip s c.0) (stays s c.0 c.1);
          apart = λ s r us ur q.
              let cs = clear-other h v s us in
              let cr = clear-other h v r ur in
              g.frame.apart s r cs.1 cr.1 (sym (tip s cs.0) ∙ q ∙ tip r cr.0);
          covered = λ i ci o a z.
              let d = freed-childless t (tip_of h v) evicted trace i o a z in
              let b = freed-back t (tip_of h v) evicted trace i o in
              let w = g.frame.covered i ci b.0 (sym b.3 ∙ a) d.1 in
              let ne : w.0 ≢ v = λ q. d.0 (sym w.2 ∙ ap (tip_of h) q) in
              (w.0, rw (busy w.0 ne) w.1, rw (tip w.0 ne) w.2);
          chained = λ i o a ne.
              let b = freed-back t (tip_of h v) evicted trace i o in
              let c = g.frame.chained i b.0 (sym b.3 ∙ a) ne in
              let p = freed-active t (tip_of h v) evicted trace c.0 c.1 c.2 in
              (c.0, p.0, p.1, p.2 ∙ c.3);
        };
        anchored = λ s u.
            let c = clear-other h v s u in
            rw (tip s c.0, seat-kept h (clear h v) v NONE (clear-seat h v) s c.0)
            (freed_ends t (tip_of h v) evicted trace (tip_of h s) (kept h s) (stays s c.0 c.1).0 (g.anchored s c.1));
      }

-- ---- the victim

module _ (hashes sequences tips : List ℕ) (active_head : ℕ) where
  pub victim-some : (v : ℕ) → victim hashes sequences tips active_head ≡ Some v → (used tips v ≡ true) × (tip_at tips v ≢ active_head)
  unfolding victim may_go
  victim-some v e =
      let b = best-holds (may_go sequences tips active_head) (λ j k. block_before hashes sequences (tip_at tips j) (tip_at tips k)) _ v e in
      let c = and-true (used tips v && not (eqb (tip_at tips v) active_head)) (occupied sequences (tip_at tips v)) b.1 in
      let d = and-true (used tips v) (not (eqb (tip_at tips v) active_head)) c.0 in
      (d.0, eqb-false (tip_at tips v) active_head (not-true (eqb (tip_at tips v) active_head) d.1))

  pub victim-none : victim hashes sequences tips active_head ≡ None → (s : ℕ) → s < slots_of tips → used tips s ≡ true → occupied sequences (tip_at tips s) ≡ true → tip_at tips s ≡ active_head
  unfolding victim may_go
  victim-none e s l u o = same? (tip_at tips s) active_head (λ q. q) (λ ne.
      true-not-false {b = may_go sequences tips active_head s}
      (rw (u, ne_eqb (tip_at tips s) active_head ne, o))
      (best-misses (may_go sequences tips active_head) (λ j k. block_before hashes sequences (tip_at tips j) (tip_at tips k)) _ s e l))

-- of two heads one is not the active one
pub victim-there : (t : Blocks) (h : Heads) (active_head : ℕ) → Room h → Apart h → ((s : ℕ) → in_use h s ≡ true → is_occupied t (tip_of h s) ≡ true)
    → ((s : ℕ) → s < room h → in_use h s ≡ true) → victim t.hashes t.sequences h.tips active_head ≢ None
victim-there t h active_head r apart there full e =
    let n = head-slots h r in
    let m = r.two in
    let u0 = full 0 (omega arith) in
    let u1 = full 1 (omega arith) in
    let t0 = victim-none t.hashes t.sequences h.tips active_head e 0 (omega arith) u0 (there 0 u0) in
    let t1 = victim-none t.hashes t.sequences h.tips active_head e 1 (omega arith) u1 (there 1 u1) in
    let z : ◌≡◌ {A = ℕ} 0 1 = apart 0 1 u0 u1 (t0 ∙ sym t1) in
    omega arith

-- ---- the rule

pub evict-one : (t : Blocks) (h : Heads) (active_head v : ℕ) → Shape t → victim t.hashes t.sequences h.tips active_head ≡ Some v
    → evict_one (record { blocks = t; heads = h }) active_head ≡ record { blocks = evict_from (size t) t (tip_of h v); heads = clear h v }
unfolding evict_one evict
evict-one t h active_head v s e = rw (e, evict_one) (rw (kids-slots t s))
