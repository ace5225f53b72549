-- The subtree that removal marks: the root, and of the others those whose parent is marked.
use Rattle.std.specs.Prelude.{if◌then◌else◌}
use mathlib.Core.Path.{◌≡◌, refl, sym, ◌∙◌}
use mathlib.Core.Logic.{◌≢◌}
use mathlib.Core.Bool.{Bool, true, false, ◌&&◌}
use mathlib.Core.List.{List, [], ◌∷◌, ◌++◌}
use Prim.Native.Nat.{ℕ, zero, suc, ◌+◌, ◌<◌}
use native.Mathlib.Omega.{arith}
use lib.Dec.{eqb}
use borrow.Author.Tests.{eqb-true, eq-eqb}
use Rattle.rules.specs.Common.{lowest, all_below}
use Rattle.rules.specs.Records.{NONE, Blocks, slots_of}
use Rattle.rules.specs.BlockTable.{reaches, in_subtree, mark_subtree}
use Rattle.rules.specs.Removal.{listed}
use Rattle.rules.specs.Calls.{holds_active}
use Rattle.rules.proofs.Splits.{split, same?, not_some, and-true, true-not-false}
use Rattle.rules.proofs.Search.{lowest-misses, all-fails}
use Rattle.rules.proofs.Walks.{reaches-root, reaches_end, reaches-up}
use Rattle.rules.proofs.Kept.Counting.{zero?}
use Rattle.rules.proofs.Kept.Table.{size, parent_of, is_occupied, is_active, Shape, Linked, occupied-lt, occupied-real, kids-slots, parent-there}
use Rattle.rules.proofs.Kept.Ends.{depth, depth_falls, depth-lt, Above, here, up}
use Rattle.rules.proofs.Kept.Leaves.{above-occupied}

-- ---- a list of those that pass

listed-end : (l : List ℕ) (x i : ℕ) → listed (l ++ x ∷ []) i ≡ (if listed l i then true else eqb x i)
unfolding listed
listed-end [] x i = split (eqb x i) (λ e. rw e refl) (λ e. rw e refl)
listed-end (y ∷ l) x i = split (eqb y i) (λ e. rw e refl) (λ e. rw e (listed-end l x i))

module _ (test : ℕ → Bool) where
  unfoldable below : ℕ → ℕ → Bool
  below n i = listed (all_below test n) i

  below-yes : (n i : ℕ) → test n ≡ true → below (suc n) i ≡ (if below n i then true else eqb n i)
  unfolding below all_below
  below-yes n i e = rw e (listed-end (all_below test n) n i)

  below-no : (n i : ℕ) → test n ≡ false → below (suc n) i ≡ below n i
  unfolding below
  below-no n i e = let q : n + 1 ≡ suc n = omega arith in rw (← q, all-fails test n e) refl

  below_in : (n i : ℕ) → i < n → test i ≡ true → below n i ≡ true
  below_in zero i l e = absurd (omega arith)
  below_in (suc n) i l e = same? n i
      (λ q. below-yes n i (rw q e) ∙ split (below n i) (λ b. rw b refl) (λ b. rw b (eq-eqb n i q)))
      (λ ne. split (test n)
      (λ t. below-yes n i t ∙ rw (below_in n i (omega arith) e))
      (λ t. below-no n i t ∙ below_in n i (omega arith) e))

  below_out : (n i : ℕ) → below n i ≡ true → test i ≡ true
  unfolding below all_below listed
  below_out zero i b = true-not-false {b = false} b refl
  below_out (suc n) i b = split (test n)
      (λ t. split (below n i)
      (λ c. below_out n i c)
      (λ c. let q = eqb-true n i (rw c at (sym (below-yes n i t) ∙ b)) in rw (← q) t))
      (λ t. below_out n i (sym (below-no n i t) ∙ b))

-- ---- the walk to the root

module _ (t : Blocks) (r : ℕ) (s : Shape t) (l : Linked t) where
  -- more visits than there are blocks below change nothing
  reaches_more : (f g j : ℕ) → is_occupied t j ≡ true → depth t j < f → depth t j < g
      → reaches t.parents t.sequences r f j ≡ reaches t.parents t.sequences r g j
  reaches_more zero g j o a b = absurd (omega arith)
  reaches_more (suc f) zero j o a b = absurd (omega arith)
  reaches_more (suc f) (suc g) j o a b = same? j r
      (λ q. reaches-root t.parents t.sequences r (suc f) j (omega arith) q ∙ sym (reaches-root t.parents t.sequences r (suc g) j (omega arith) q))
      (λ ne. same? (parent_of t j) NONE
      (λ e. reaches_end t.parents t.sequences r (suc f) j (omega arith) ne o e ∙ sym (reaches_end t.parents t.sequences r (suc g) j (omega arith) ne o e))
      (λ np.
      let p = parent-there t j l o np in
      let d = depth_falls t j (parent_of t j) p.0 (omega arith) in
      reaches-up t.parents t.sequences r f j ne o np ∙ reaches_more f g (parent_of t j) p.0 (omega arith) (omega arith)
      ∙ sym (reaches-up t.parents t.sequences r g j ne o np)))

  module _ (root : is_occupied t r ≡ true) where
    abbrev pub mark : ℕ → Bool
    mark j = in_subtree t.parents t.sequences r j

    mark-is : (j : ℕ) → is_occupied t j ≡ true → mark j ≡ reaches t.parents t.sequences r (size t) j
    unfolding in_subtree
    mark-is j o = rw (o, kids-slots t s)

    pub mark-occupied : (j : ℕ) → mark j ≡ true → is_occupied t j ≡ true
    unfolding in_subtree
    mark-occupied j m = (and-true (is_occupied t j) (reaches t.parents t.sequences r (slots_of t.sequences) j) m).0

    pub mark-root : mark r ≡ true
    mark-root = mark-is r root ∙ reaches-root t.parents t.sequences r (size t) r (let k = occupied-lt t r root in omega arith) refl

    -- a block other than the root is marked exactly when its parent is
    pub mark-parent : (j : ℕ) → j ≢ r → is_occupied t j ≡ true → parent_of t j ≢ NONE → mark j ≡ mark (parent_of t j)
    mark-parent j ne o np =
        let p = parent-there t j l o np in
        let d = depth_falls t j (parent_of t j) p.0 (omega arith) in
        let e = depth-lt t j o in
        rw (mark-is j o, mark-is (parent_of t j) p.0) (zero? (size t)
        (λ z. absurd (omega arith))
        (λ n q. rw q (reaches-up t.parents t.sequences r n j ne o np ∙ reaches_more n (suc n) (parent_of t j) p.0 (omega arith) (omega arith))))

    pub mark-above : (j : ℕ) → Above t r j → mark j ≡ true
    mark-above j here = mark-root
    mark-above j (up k o x) = same? k r
        (λ q. rw q mark-root)
        (λ ne.
        let op = above-occupied t s l r (parent_of t k) x root in
        mark-parent k ne o (occupied-real t (parent_of t k) s op) ∙ mark-above (parent_of t k) x)

    pub mark-listed : (j : ℕ) → listed (mark_subtree t.parents t.sequences r) j ≡ mark j
    unfolding mark_subtree below
    mark-listed j = rw root (split (mark j)
        (λ m. below_in mark (slots_of t.sequences) j (rw (kids-slots t s) (occupied-lt t j (mark-occupied j m))) m ∙ sym m)
        (λ m. split (below mark (slots_of t.sequences) j)
        (λ b. true-not-false {b = mark j} (below_out mark (slots_of t.sequences) j b) m)
        (λ b. b ∙ sym m)))

    -- where removal is not refused, no marked block is active
    pub mark-off : holds_active t r ≡ false → (j : ℕ) → mark j ≡ true → is_active t j ≡ false
    unfolding holds_active
    mark-off e j m =
        let n = not_some (lowest (λ i. mark i && is_active t i) _) e in
        rw m at (lowest-misses (λ i. mark i && is_active t i) _ j n (omega (arith, kids-slots t s, occupied-lt t j (mark-occupied j m))))
