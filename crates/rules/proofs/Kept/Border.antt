-- The promises of a state, and what the proofs keep of its tables: each gives the other.
use mathlib.Core.Path.{◌≡◌, refl}
use mathlib.Core.Logic.{◌≢◌, ◌⊎◌, inl, inr}
use mathlib.Core.Bool.{true}
use Prim.Native.Nat.{ℕ}
use Rattle.rules.specs.Records.{NONE}
use Rattle.rules.specs.Calls.{State}
use Rattle.rules.specs.Promises.{Occupied, Active, OnLine, start, down, name, Sound, Tree}
use Rattle.rules.proofs.Splits.{split}
use Rattle.rules.proofs.Kept.Table.{Linked, parent_of, is_occupied, is_active, occupied-ne, ne-occupied, empty-eq}
use Rattle.rules.proofs.Kept.Seats.{tip_of, in_use, use-ne, ne-use, free-eq}
use Rattle.rules.proofs.Kept.Frame.{Chained, Good, All}
use Rattle.rules.proofs.Kept.Slots.{Voids}
use Rattle.rules.proofs.Kept.Walked.{its_blocks, its_heads, active_on, on-active, idle-off, off-idle}
use Rattle.rules.proofs.Kept.Shaped.{shaped-is, shaped-shape}
use Rattle.rules.proofs.Kept.Anchors.{ends-anchored, anchored-ends}

pub line-active : (s : State) (i : ℕ) → OnLine s i → Active s i
line-active s i (start a) = a
line-active s i (down j x a) = a

-- every active block of the line but the record's has an active child
pub line-chained : (s : State) → ((i : ℕ) → Active s i → Occupied s i × OnLine s i) → Chained (its_blocks s) s.active_head
line-chained s line i o a ne = go i ne (line i (on-active s i a)).1
  where
    go : (k : ℕ) → k ≢ s.active_head → OnLine s k → (c : ℕ) × (is_occupied (its_blocks s) c ≡ true) × (is_active (its_blocks s) c ≡ true) × (parent_of (its_blocks s) c ≡ k)
    go k n (start x) = absurd (n refl)
    go k n (down j l x) = let b = line-active s j l in (j, ne-occupied (its_blocks s) j (line j b).0, active_on s j b, refl)

module _ (s : State) (z : Tree s) where
  pub tree-linked : Linked (its_blocks s)
  tree-linked i o = let t = its_blocks s in
      elim (z.parents i (occupied-ne t i o)) [ inl e ↦ inl e | inr p ↦ inr (ne-occupied t (parent_of t i) p.0, p.1) ]

  pub tree-voids : Voids (its_blocks s)
  tree-voids i e = z.empty_slots i (λ o. o (empty-eq (its_blocks s) i e))

pub sound-good : (s : State) → Sound s → Good (its_blocks s) (its_heads s) s.active_head All
sound-good s z =
    let t = its_blocks s in
    let h = its_heads s in
    let (sh, ro) = shaped-shape s.tables z.tree.shape in
    let l = tree-linked s z.tree in
    record {
      frame = record {
        counts = record { shape = sh; linked = l; counted = λ i o a. z.counts i (occupied-ne t i o) (off-idle s i a) };
        voids = tree-voids s z.tree;
        roomy = ro;
        blanks = λ k e. z.empty_heads k (λ o. o (free-eq h k e));
        tips = λ k u. let p = z.tips k (use-ne h k u) in (ne-occupied t (tip_of h k) p.0, p.1);
        apart = λ j k uj uk q. z.different j k (use-ne h j uj) (use-ne h k uk) q;
        covered = λ i _ o a c. let (k, u, q) = (z.heads i (occupied-ne t i o) (off-idle s i a)).1 c in (k, ne-use h k u, q);
        chained = line-chained s z.tree.line;
      };
      anchored = λ k u. anchored-ends s k sh l (z.anchored k (use-ne h k u));
    }

pub good-sound : (s : State) → Good (its_blocks s) (its_heads s) s.active_head All
    → ((i : ℕ) → Active s i → Occupied s i × OnLine s i)
    → (s.active_head ≡ NONE) ⊎ Active s s.active_head
    → ((i j : ℕ) → Occupied s i → Occupied s j → name s i ≡ name s j → i ≡ j)
    → Sound s
good-sound s g line active_head names =
    let t = its_blocks s in
    let h = its_heads s in
    let f = g.frame in
    let sh = f.counts.shape in
    record {
      tree = record {
        shape = shaped-is s.tables sh f.roomy;
        parents = λ i o. elim (f.counts.linked i (ne-occupied t i o)) [ inl e ↦ inl e | inr p ↦ inr (occupied-ne t (parent_of t i) p.0, p.1) ];
        line = line;
        active_head = active_head;
        names = names;
        empty_slots = λ i no. f.voids i (split (is_occupied t i) (λ o. absurd (no (occupied-ne t i o))) (λ e. e));
      };
      counts = λ i o a. f.counts.counted i (ne-occupied t i o) (idle-off s i a);
      heads = λ i o a. (
        λ k. rw k.2 at (f.tips k.0 (ne-use h k.0 k.1)).1,
        λ c. let (k, u, q) = f.covered i tt (ne-occupied t i o) (idle-off s i a) c in (k, use-ne h k u, q),
      );
      tips = λ k u. let p = f.tips k (ne-use h k u) in (occupied-ne t (tip_of h k) p.0, p.1);
      different = λ j k uj uk q. f.apart j k (ne-use h j uj) (ne-use h k uk) q;
      anchored = λ k u. ends-anchored s k sh f.counts.linked (f.tips k (ne-use h k u)).0 (g.anchored k (ne-use h k u));
      empty_heads = λ k no. f.blanks k (split (in_use h k) (λ u. absurd (no (use-ne h k u))) (λ e. e));
    }
