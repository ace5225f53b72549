-- The parent walk as a list of visits, beside the walk's end: each gives the other.
use mathlib.Core.Path.{◌≡◌, refl}
use mathlib.Core.Bool.{true, false}
use mathlib.Core.List.{List, [], ◌∷◌}
use Prim.Native.Nat.{ℕ, zero, suc, ◌%◌, ◌≤◌, ◌<◌}
use native.Mathlib.Omega.{arith}
use lib.ListN.{length, get_or}
use borrow.Author.Tests.{eqb-true, eq-eqb, ne_eqb}
use Rattle.rules.specs.Records.{NONE, Blocks, Heads, active}
use Rattle.rules.specs.Anchor.{Anchor, connection, tail}
use Rattle.rules.specs.Calls.{State}
use Rattle.rules.specs.Promises.{parent, Occupied, Active, Walk, ends, goes, Among, first, further, FirstActive, here, after, Last, only, behind}
use Rattle.rules.proofs.Splits.{same?, true-not-false}
use Rattle.rules.proofs.Kept.Table.{parent_of, is_occupied, is_active, Shape, Linked, occupied-ne, ne-occupied, occupied-real, none-empty, empty-eq, parent-there}
use Rattle.rules.proofs.Kept.Ends.{Ends, at-active, at-root, goes_on, depth, depth_falls}

abbrev pub its_blocks : State → Blocks
its_blocks s = s.tables.blocks

abbrev pub its_heads : State → Heads
its_heads s = s.tables.heads

module _ (s : State) (i : ℕ) where
  pub active_on : Active s i → is_active (its_blocks s) i ≡ true
  unfolding active
  active_on a = eq-eqb (get_or s.tables.blocks.flags i 0 % 2) 1 a

  pub on-active : is_active (its_blocks s) i ≡ true → Active s i
  unfolding active
  on-active e = eqb-true (get_or s.tables.blocks.flags i 0 % 2) 1 e

  pub idle-off : ¬ (Active s i) → is_active (its_blocks s) i ≡ false
  unfolding active
  idle-off n = ne_eqb (get_or s.tables.blocks.flags i 0 % 2) 1 n

  pub off-idle : is_active (its_blocks s) i ≡ false → ¬ (Active s i)
  off-idle e a = true-not-false {b = is_active (its_blocks s) i} (active_on a) e

module _ (s : State) (sh : Shape (its_blocks s)) (l : Linked (its_blocks s)) where
  abbrev t : Blocks
  t = its_blocks s

  no-parent : (i : ℕ) → parent_of t i ≡ NONE → ¬ (Occupied s (parent s i))
  no-parent i e o = o (rw e (empty-eq t NONE (none-empty t sh)))

  walk-starts : (i : ℕ) (visits : List ℕ) → Walk s i visits → is_occupied t i ≡ true
  walk-starts i visits (ends j o n) = ne-occupied t j o
  walk-starts i visits (goes j rest o w) = ne-occupied t j o

  pub walk-there : (f i : ℕ) → is_occupied t i ≡ true → depth t i < f → (visits : List ℕ) × Walk s i visits × (length visits ≤ suc (depth t i))
  walk-there zero i o d = absurd (omega arith)
  walk-there (suc f) i o d = same? (parent_of t i) NONE
      (λ e. (i ∷ [], ends i (occupied-ne t i o) (no-parent i e), omega arith))
      (λ ne.
      let p = parent-there t i l o ne in
      let q = depth_falls t i (parent_of t i) p.0 (omega arith) in
      let r = walk-there f (parent_of t i) p.0 (omega arith) in
      let n = r.2 in
      (i ∷ r.0, goes i r.0 (occupied-ne t i o) r.1, omega arith))

  -- what a walk that ends so has met
  unfoldable pub Met : List ℕ → Anchor → Type 0
  Met visits (connection a) = FirstActive s a visits
  Met visits (tail a) = Last a visits × ((j : ℕ) → Among j visits → ¬ (Active s j))

  none_in : (i j : ℕ) (visits : List ℕ) → ¬ (Active s i) → ((k : ℕ) → Among k visits → ¬ (Active s k)) → Among j (i ∷ visits) → ¬ (Active s j)
  none_in i j visits n rest (first v) = n
  none_in i j visits n rest (further k v m) = rest j m

  nothing : (j : ℕ) → Among j [] → ¬ (Active s j)
  nothing j m = go [] refl m
    where
      go : (v : List ℕ) → length v ≡ 0 → Among j v → ¬ (Active s j)
      go v e (first w) = absurd (omega arith)
      go v e (further k w n) = absurd (omega arith)

  met-on : (i : ℕ) (visits : List ℕ) (b : Anchor) → ¬ (Active s i) → Met visits b → Met (i ∷ visits) b
  unfolding Met
  met-on i visits (connection a) n m = after i visits n m
  met-on i visits (tail a) n m = (behind i visits m.0, λ j. none_in i j visits n m.1)

  pub walk-met : (i : ℕ) (visits : List ℕ) (b : Anchor) → Walk s i visits → Ends t i b → Met visits b
  unfolding Met
  walk-met i visits b (ends j o n) (at-active k p a) = here [] (on-active s j a)
  walk-met i visits b (ends j o n) (at-root k p a q) = (only, λ m. none_in j m [] (off-idle s j a) nothing)
  walk-met i visits b (ends j o n) (goes_on k p a q e) = absurd (n (occupied-ne t (parent_of t j) (parent-there t j l p q).0))
  walk-met i visits b (goes j rest o w) (at-active k p a) = here rest (on-active s j a)
  walk-met i visits b (goes j rest o w) (at-root k p a q) = absurd (no-parent j q (occupied-ne t (parent_of t j) (walk-starts (parent_of t j) rest w)))
  walk-met i visits b (goes j rest o w) (goes_on k p a q e) = met-on j rest b (off-idle s j a) (walk-met (parent_of t j) rest b w e)

  -- ---- and back

  pub walk_first : (a i : ℕ) (visits : List ℕ) → Walk s i visits → FirstActive s a visits → Ends t i (connection a)
  walk_first a i visits (ends j o n) (here v x) = at-active j (ne-occupied t j o) (active_on s j x)
  walk_first a i visits (ends j o n) (after k v x m) = absurd (stop [] refl m)
    where
      stop : (v : List ℕ) → length v ≡ 0 → FirstActive s a v → ⊥
      stop v e (here w y) = omega arith
      stop v e (after k w y z) = omega arith
  walk_first a i visits (goes j rest o w) (here v x) = at-active j (ne-occupied t j o) (active_on s j x)
  walk_first a i visits (goes j rest o w) (after k v x m) =
      goes_on j {a = connection a} (ne-occupied t j o) (idle-off s j x) (occupied-real t (parent_of t j) sh (walk-starts (parent_of t j) rest w)) (walk_first a (parent_of t j) rest w m)

  pub walk-last : (a i : ℕ) (visits : List ℕ) → Walk s i visits → ((j : ℕ) → Among j visits → ¬ (Active s j)) → Last a visits → Ends t i (tail a)
  walk-last a i visits (ends j o n) none only =
      at-root j (ne-occupied t j o) (idle-off s j (none j (first []))) (same? (parent_of t j) NONE (λ e. e) (λ ne. absurd (n (occupied-ne t (parent_of t j) (parent-there t j l (ne-occupied t j o) ne).0))))
  walk-last a i visits (ends j o n) none (behind k v m) = absurd (stop [] refl m)
    where
      stop : (v : List ℕ) → length v ≡ 0 → Last a v → ⊥
      stop v e only = omega arith
      stop v e (behind k w z) = omega arith
  walk-last a i visits (goes j rest o w) none only = absurd (stop [] refl (parent_of t j) w)
    where
      stop : (v : List ℕ) → length v ≡ 0 → (k : ℕ) → Walk s k v → ⊥
      stop v e k (ends m p n) = omega arith
      stop v e k (goes m r p n) = omega arith
  walk-last a i visits (goes j rest o w) none (behind k v m) =
      goes_on j {a = tail a} (ne-occupied t j o) (idle-off s j (none j (first rest))) (occupied-real t (parent_of t j) sh (walk-starts (parent_of t j) rest w))
      (walk-last a (parent_of t j) rest w (λ c d. none c (further j rest d)) m)
