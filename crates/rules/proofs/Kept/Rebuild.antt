-- Restart keeps both tables (01, "Rebuild").
use mathlib.Core.Path.{◌≡◌, refl, sym, ◌∙◌}
use mathlib.Core.Bool.{Bool, true, false, ◌&&◌}
use Prim.Native.Nat.{ℕ, zero, suc, ◌≤◌, ◌<◌}
use native.Mathlib.Omega.{arith}
use borrow.Author.Tests.{eqb-true, eq-eqb}
use Rattle.rules.specs.Common.{in_order}
use Rattle.rules.specs.Hashes.{zero_hash}
use Rattle.rules.specs.Records.{NONE, Blocks, Heads, Tables, slots_of}
use Rattle.rules.specs.BlockTable.{childless, children, max_count}
use Rattle.rules.specs.Admission.{insert_head}
use Rattle.rules.specs.Removal.{recounted}
use Rattle.rules.specs.Rebuild.{rebuild_at, rebuilt_below, rebuild_heads, rebuilt, headless, restarted}
use Rattle.rules.specs.Promises.{children_of}
use Rattle.rules.proofs.Splits.{split, same?, and-true, true-not-false}
use Rattle.rules.proofs.Kept.Table.{Shape, Linked, size, is_occupied, is_active, occupied-lt, occupied-real, kids-slots}
use Rattle.rules.proofs.Kept.Slots.{Voids}
use Rattle.rules.proofs.Kept.Steady.{Steady, steady-trans, ends_same}
use Rattle.rules.proofs.Kept.Seats.{Room, room, tip_of, in_use, kept}
use Rattle.rules.proofs.Kept.Frame.{Chained, Frame, Good, All}
use Rattle.rules.proofs.Kept.Leaves.{children-bound}
use Rattle.rules.proofs.Kept.Place.{insert-done}
use Rattle.rules.proofs.Kept.Sweep.{kids-are, recounted-kids, recounted-voids, recounted-kept}
use Rattle.rules.proofs.Kept.Empty.{no-head, none-used, empty-room}

-- counts may be set again at any time
recounted-good : (t : Blocks) (h : Heads) (active_head : ℕ) (C : ℕ → Type 0) → Good t h active_head C → ((i : ℕ) → is_occupied t i ≡ true → children_of t i ≤ max_count) → Good (recounted t) h active_head C
recounted-good t h active_head C g few =
    let f = g.frame in
    let s = f.counts.shape in
    record {
      frame = record {
        counts = recounted-kept t s f.counts.linked few;
        voids = recounted-voids t s f.voids;
        roomy = f.roomy;
        blanks = f.blanks;
        tips = λ k u. let p = f.tips k u in (p.0, rw (recounted-kids t s) p.1);
        apart = f.apart;
        covered = λ i c o a z. f.covered i c o a (rw (recounted-kids t s) at z);
        chained = f.chained;
      };
      anchored = λ k u. ends_same t (recounted t) (λ _. (refl, refl, refl)) (tip_of h k) (kept h k) (g.anchored k u);
    }

recounted-steady : (t : Blocks) → Steady NONE t (recounted t)
recounted-steady t = record { keeps = λ _ o a. (o, a, λ _. refl); back = λ _ o a. (o, a); same = λ _ _ o. (o, refl, refl) }

few-kids : (t : Blocks) (h : Heads) (active_head : ℕ) → Frame t h active_head All → (i : ℕ) → is_occupied t i ≡ true → children_of t i ≤ max_count
few-kids t h active_head f i o = omega (arith, f.roomy.few, children-bound t h active_head All f (λ _. tt) i (occupied-real t i f.counts.shape o))

-- the first k slots are done
record Upto (t : Blocks) (active_head k : ℕ) (w : Tables) : Type 0 where
  good : Good w.blocks w.heads active_head (λ i. i < k)
  lower : (s : ℕ) → in_use w.heads s ≡ true → tip_of w.heads s < k
  steady : Steady NONE t w.blocks
  sizes : size w.blocks ≡ size t

module _ (arrival active_head k : ℕ) (w : Tables) where
  abbrev leaf? : Bool
  leaf? = is_occupied w.blocks k && childless w.blocks.parents w.blocks.sequences k

  turn-yes : leaf? ≡ true → rebuild_at arrival active_head k w ≡ insert_head w k NONE zero_hash arrival active_head
  unfolding rebuild_at
  turn-yes e = rw e

  turn-no : leaf? ≡ false → rebuild_at arrival active_head k w ≡ w
  unfolding rebuild_at
  turn-no e = rw e

  once-upto : (t : Blocks) → Upto t active_head k w → Upto t active_head (suc k) (rebuild_at arrival active_head k w)
  unfolding childless
  once-upto t p = let f = p.good.frame in split leaf?
      (λ e.
      let c = and-true (is_occupied w.blocks k) (childless w.blocks.parents w.blocks.sequences k) e in
      let d = insert-done w.blocks w.heads active_head k NONE zero_hash arrival (is_active w.blocks k) (λ i. i < k) (λ i. i < suc k) (λ i l ne. omega arith) (record {
        good = p.good;
        home = c.0;
        fresh = refl;
        bottom = sym (kids-are w.blocks f.counts.shape k) ∙ eqb-true (children w.blocks.parents w.blocks.sequences k) 0 c.1;
        bare = λ r u q. absurd (omega (arith, p.lower r u));
      }) in
      rw (turn-yes e) (record {
        good = d.good;
        lower = d.from (λ i. i < suc k) (omega arith) (λ r u. omega (arith, p.lower r u));
        steady = steady-trans NONE t w.blocks (insert_head w k NONE zero_hash arrival active_head).blocks p.steady d.steady;
        sizes = d.sizes ∙ p.sizes;
      }))
      (λ e. rw (turn-no e) (record {
        good = record {
          frame = record {
            counts = f.counts;
            voids = f.voids;
            roomy = f.roomy;
            blanks = f.blanks;
            tips = f.tips;
            apart = f.apart;
            covered = λ i l o a z. same? i k
                (λ q. true-not-false {b = leaf?} (rw (rw q at o, kids-are w.blocks f.counts.shape k, eq-eqb (children_of w.blocks k) 0 (rw q at z)) refl) e)
                (λ ne. f.covered i (omega arith) o a z);
            chained = f.chained;
          };
          anchored = p.good.anchored;
        };
        lower = λ s u. omega (arith, p.lower s u);
        steady = p.steady;
        sizes = p.sizes;
      }))

all-upto : (arrival active_head : ℕ) (t : Blocks) (w : Tables) → Upto t active_head 0 w → (k : ℕ) → Upto t active_head k (in_order (rebuild_at arrival active_head) k w)
unfolding in_order
all-upto arrival active_head t w p zero = p
all-upto arrival active_head t w p (suc k) = once-upto arrival active_head k (in_order (rebuild_at arrival active_head) k w) t (all-upto arrival active_head t w p k)

-- what restart asks of the blocks, whatever their counts
pub record Trunk (t : Blocks) (active_head : ℕ) : Type 0 where
  pub shape : Shape t
  pub linked : Linked t
  pub voids : Voids t
  pub chained : Chained t active_head
  pub few : (i : ℕ) → is_occupied t i ≡ true → children_of t i ≤ max_count

pub frame-trunk : (t : Blocks) (h : Heads) (active_head : ℕ) → Frame t h active_head All → Trunk t active_head
frame-trunk t h active_head f = record { shape = f.counts.shape; linked = f.counts.linked; voids = f.voids; chained = f.chained; few = few-kids t h active_head f }

module _ (t : Blocks) (h : Heads) (active_head arrival : ℕ) (r : Room h) (b : Trunk t active_head) where
  abbrev start : Tables
  start = headless (record { blocks = t; heads = h })

  begins : Upto t active_head 0 start
  begins = let m = room h in
      record {
        good = record {
          frame = record {
            counts = recounted-kept t b.shape b.linked b.few;
            voids = recounted-voids t b.shape b.voids;
            roomy = empty-room m r.two r.few;
            blanks = λ k _. no-head m k;
            tips = λ k u. absurd (none-used m k u);
            apart = λ k _ u _ _. absurd (none-used m k u);
            covered = λ i l _ _ _. absurd (omega arith);
            chained = b.chained;
          };
          anchored = λ k u. absurd (none-used m k u);
        };
        lower = λ k u. absurd (none-used m k u);
        steady = recounted-steady t;
        sizes = refl;
      }

  -- its heads half made
  pub half-good : (k : ℕ) → Good (rebuilt_below k start arrival active_head).blocks (rebuilt_below k start arrival active_head).heads active_head (λ i. i < k)
  half-good k = (all-upto arrival active_head t start begins k).good

  pub restart-done : Good (restarted (record { blocks = t; heads = h }) arrival active_head).blocks (restarted (record { blocks = t; heads = h }) arrival active_head).heads active_head All
      × Steady NONE t (restarted (record { blocks = t; heads = h }) arrival active_head).blocks
  unfolding restarted rebuilt rebuild_heads
  restart-done =
      let n = slots_of t.sequences in
      let w : Tables = in_order (rebuild_at arrival active_head) n start in
      let p = all-upto arrival active_head t start begins n in
      let f = p.good.frame in
      let full : Good w.blocks w.heads active_head All = record {
        frame = record {
          counts = f.counts;
          voids = f.voids;
          roomy = f.roomy;
          blanks = f.blanks;
          tips = f.tips;
          apart = f.apart;
          covered = λ i _ o a z. f.covered i (let l = occupied-lt w.blocks i o in let e = p.sizes in let k = kids-slots t b.shape in omega arith) o a z;
          chained = f.chained;
        };
        anchored = p.good.anchored;
      } in (
        recounted-good w.blocks w.heads active_head All full (few-kids w.blocks w.heads active_head full.frame),
        steady-trans NONE t w.blocks (recounted w.blocks) p.steady (recounted-steady w.blocks),
      )
