-- The shape that the calls test, as facts about lengths.
use mathlib.Core.Path.{◌≡◌, refl, sym, ◌∙◌}
use mathlib.Core.Bool.{true, ◌&&◌}
use Prim.Native.Nat.{ℕ, ◌*◌}
use native.Mathlib.Omega.{arith}
use lib.Dec.{eqb, leb}
use lib.ListN.{length}
use borrow.Author.Tests.{eqb-true, eq-eqb, leb-true, le-leb}
use Rattle.rules.specs.Hashes.{hash_length}
use Rattle.rules.specs.Records.{Tables, blocks_fit, heads_fit}
use Rattle.rules.specs.Calls.{shaped, blocks_in, heads_in, max_blocks, min_heads, max_heads}
use Rattle.rules.proofs.Splits.{and-true}
use Rattle.rules.proofs.Kept.Table.{Shape}
use Rattle.rules.proofs.Kept.Seats.{Room}

module _ (t : Tables) where
  abbrev n : ℕ
  n = blocks_in t

  abbrev m : ℕ
  m = heads_in t

  pub shaped-is : Shape t.blocks → Room t.heads → shaped t ≡ true
  unfolding shaped blocks_fit heads_fit
  shaped-is s r =
      let b = t.blocks in
      let h = t.heads in
      let e = s.parents in
      rw (
        le-leb 1 n (omega (arith, s.some)),
        le-leb n max_blocks (omega (arith, s.small)),
        le-leb min_heads m r.two,
        le-leb m max_heads r.few,
        eq-eqb (length b.hashes) (n * hash_length) (omega (arith, s.hashed)),
        eq-eqb (length b.sequences) n (sym e),
        eq-eqb (length b.counts) n (omega (arith, s.counts)),
        eq-eqb (length b.flags) n (omega (arith, s.flagged)),
        eq-eqb (length h.tails) m r.tailed,
        eq-eqb (length h.missing) (m * hash_length) r.missed,
        eq-eqb (length h.requested) m r.asked,
        eq-eqb (length h.arrivals) m r.arrived,
        eq-eqb (length h.connected) m r.flagged,
      ) refl

  pub shaped-shape : shaped t ≡ true → Shape t.blocks × Room t.heads
  unfolding shaped blocks_fit heads_fit
  shaped-shape e =
      let b = t.blocks in
      let h = t.heads in
      let few = leb 1 n && leb n max_blocks in
      let fits = eqb (length b.hashes) (n * hash_length) && eqb (length b.sequences) n in
      let heads = eqb (length h.tails) m && eqb (length h.missing) (m * hash_length) in
      let a1 = and-true (few && leb min_heads m && leb m max_heads && blocks_fit b n) (heads_fit h m) e in
      let a2 = and-true (few && leb min_heads m && leb m max_heads) (blocks_fit b n) a1.0 in
      let a3 = and-true (few && leb min_heads m) (leb m max_heads) a2.0 in
      let a4 = and-true few (leb min_heads m) a3.0 in
      let a5 = and-true (leb 1 n) (leb n max_blocks) a4.0 in
      let b1 = and-true (fits && eqb (length b.counts) n) (eqb (length b.flags) n) a2.1 in
      let b2 = and-true fits (eqb (length b.counts) n) b1.0 in
      let b3 = and-true (eqb (length b.hashes) (n * hash_length)) (eqb (length b.sequences) n) b2.0 in
      let c1 = and-true (heads && eqb (length h.requested) m && eqb (length h.arrivals) m) (eqb (length h.connected) m) a1.1 in
      let c2 = and-true (heads && eqb (length h.requested) m) (eqb (length h.arrivals) m) c1.0 in
      let c3 = and-true heads (eqb (length h.requested) m) c2.0 in
      let c4 = and-true (eqb (length h.tails) m) (eqb (length h.missing) (m * hash_length)) c3.0 in
      let q = eqb-true (length b.sequences) n b3.1 in
      let one = leb-true 1 n a5.0 in
      let many = leb-true n max_blocks a5.1 in
      let w = eqb-true (length b.hashes) (n * hash_length) b3.0 in (
        record {
          some = omega arith;
          small = omega arith;
          parents = sym q;
          counts = eqb-true (length b.counts) n b2.1 ∙ sym q;
          flagged = eqb-true (length b.flags) n b1.1 ∙ sym q;
          hashed = omega arith;
        },
        record {
          two = leb-true min_heads m a4.1;
          few = leb-true m max_heads a3.1;
          tailed = eqb-true (length h.tails) m c4.0;
          missed = eqb-true (length h.missing) (m * hash_length) c4.1;
          asked = eqb-true (length h.requested) m c3.1;
          arrived = eqb-true (length h.arrivals) m c2.1;
          flagged = eqb-true (length h.connected) m c1.1;
        },
      )
