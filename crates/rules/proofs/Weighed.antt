-- S-1, whole: what is answered of a block of any table, and that it is what `mark_subtree` lists after every list of calls.
use mathlib.Core.Path.{◌≡◌, refl, ap, ◌∙◌}
use mathlib.Core.Logic.{inl, inr}
use mathlib.Core.Bool.{Bool, true}
use mathlib.Core.List.{List, [], ◌∷◌}
use Prim.Native.Nat.{ℕ, zero, suc, ◌+◌, ◌*◌, ◌≤◌, ◌<◌}
use native.Mathlib.Omega.{arith}
use native.Mathlib.Nat.{suc-mul}
use lib.ListN.{length, length-append}
use borrow.Author.Tests.{eqb-true}
use Rattle.rules.specs.Common.{all_below}
use Rattle.rules.specs.Records.{NONE, Blocks, slots_of, sequence_at, parent_at, occupied}
use Rattle.rules.specs.BlockTable.{in_subtree, mark_subtree}
use Rattle.rules.specs.Under.{on_level, hanging, highest}
use Rattle.rules.specs.Answers.{hangs}
use Rattle.rules.specs.Calls.{State, run, fresh, under}
use Rattle.rules.specs.Promises.{Occupied, Tree, Among, first, further, marked, Up, stays, climbs, Highest, UnderReached, UnderAny}
use Rattle.rules.proofs.Splits.{split, same?, less?, and-true, true-not-false}
use Rattle.rules.proofs.Walks.{reaches-root}
use Rattle.rules.proofs.Under.{highest-marked, number-marked, met-few}
use Rattle.rules.proofs.Kept.Counting.{zero?}
use Rattle.rules.proofs.Kept.Table.{seq_of, is_occupied, occupied-ne, ne-occupied, occupied-lt, occupied-real, none-empty, kids-slots}
use Rattle.rules.proofs.Kept.Shaped.{shaped-shape}
use Rattle.rules.proofs.Demand3.{demand-3}

-- ---- the highest of a list

highest-none : (sequences : List ℕ) (j : ℕ) (l : List ℕ) → Among j l → sequence_at sequences j ≤ highest sequences l
unfolding highest
highest-none sequences j l (first k) = omega arith
highest-none sequences j l (further x k among) = omega (arith, highest-none sequences j k among)

highest-one : (sequences l : List ℕ) → 0 < length l → (j : ℕ) × Among j l × (sequence_at sequences j ≡ highest sequences l)
unfolding highest
highest-one sequences [] some = absurd (omega arith)
highest-one sequences (x ∷ []) some = (x, first [], omega arith)
highest-one sequences (x ∷ y ∷ l) some =
    let (j, among, e) = highest-one sequences (y ∷ l) (omega arith) in
    less? (highest sequences (y ∷ l)) (sequence_at sequences x)
    (λ h. (x, first (y ∷ l), omega arith))
    (λ h. (j, further x (y ∷ l) among, omega arith))

-- ---- the block itself is listed

all-some : (test : ℕ → Bool) (n i : ℕ) → i < n → test i ≡ true → 0 < length (all_below test n)
unfolding all_below
all-some test zero i l t = absurd (omega arith)
all-some test (suc n) i l t = same? i n
    (λ e. let t' : test n ≡ true = rw e at t in rw t' (omega (arith, length-append (all_below test n) (n ∷ []))))
    (λ ne. split (test n)
    (λ t'. rw t' (omega (arith, length-append (all_below test n) (n ∷ []))))
    (λ t'. rw t' (omega (arith, length-append (all_below test n) [], all-some test n i (omega arith) t))))

some-marked : (parents sequences : List ℕ) (root : ℕ) → occupied sequences root ≡ true → root < slots_of sequences → 0 < length (mark_subtree parents sequences root)
unfolding mark_subtree in_subtree
some-marked parents sequences root o l =
    rw o (all-some (in_subtree parents sequences root) (slots_of sequences) root l (rw (o, reaches-root parents sequences root (slots_of sequences) root (omega arith) refl)))

-- ---- how many at most

hanging-few : (parents sequences : List ℕ) (root : ℕ) → root < slots_of sequences
    → length (hanging parents sequences root) + slots_of sequences ≤ slots_of sequences * slots_of sequences + 1
unfolding hanging
hanging-few parents sequences root l = zero? (slots_of sequences)
    (λ z. absurd (omega arith))
    (λ m e.
    let f = met-few parents sequences root l m in
    let k = suc-mul m (slots_of sequences) in
    rw e (let f' = rw e at f in let k' = rw e at k in omega arith))

-- ---- any table

-- a block on a level of the root: so many parent steps lead to the root
level-up : (s : State) (root level i : ℕ) → on_level s.tables.blocks.parents s.tables.blocks.sequences root level i ≡ true → Up s level i root
unfolding on_level
level-up s root zero i e = rw (eqb-true i root e) (stays root)
level-up s root (suc level) i e =
    let t = s.tables.blocks in
    let (o, up) = and-true (is_occupied t i) (on_level t.parents t.sequences root level (parent_at t.parents i)) e in
    climbs level i root (occupied-ne t i o) (level-up s root level (parent_at t.parents i) up)

pub under-any : UnderAny
unfolding under
under-any s e i o =
    let t = s.tables.blocks in
    let (sh, _) = shaped-shape s.tables e in
    let there = ne-occupied t i o in
    let real = occupied-real t i sh there in
    let n = kids-slots t sh in
    let some = sh.some in
    let same = sh.parents in
    let within : i < slots_of t.sequences = omega (arith, occupied-lt t i there) in
    record {
      number = length (hanging t.parents t.sequences i);
      highest = highest t.sequences (marked s i);
      answers = rw (e, there, highest-marked t.parents t.sequences i real (none-empty t sh) there (omega arith)) refl;
      of_marked = record {
        one = highest-one t.sequences (marked s i) (some-marked t.parents t.sequences i there within);
        none = λ j. highest-none t.sequences j (marked s i);
      };
      as_marked = λ off. number-marked t.parents t.sequences i real (none-empty t sh) there (omega arith) (λ level a b.
          split (on_level t.parents t.sequences i level i)
          (λ on. absurd (off level a (omega arith) (level-up s i level i on)))
          (λ no. no));
      at_most = rw (same, ← n) (hanging-few t.parents t.sequences i within);
    }

-- ---- reached tables

module _ (s : State) (tree : Tree s) where
  abbrev t : Blocks
  t = s.tables.blocks

  no-block-none : Occupied s NONE → ⊥
  no-block-none o = true-not-false {b = is_occupied t NONE} (ne-occupied t NONE o) (none-empty t (shaped-shape s.tables tree.shape).0)

  not-from-none : (steps i j : ℕ) → i ≡ NONE → Occupied s j → Up s steps i j → ⊥
  not-from-none steps i j e o (stays k) = no-block-none (rw e at o)
  not-from-none steps i j e o (climbs fewer k l there up) = no-block-none (rw e at there)

  -- a parent is one lower in sequence
  steps-lower : (steps i j : ℕ) → Occupied s j → Up s steps i j → seq_of t i ≡ steps + seq_of t j
  steps-lower steps i j o (stays k) = omega arith
  steps-lower steps i j o (climbs fewer k l there up) = elim (tree.parents k there) [
    | inl e ↦ absurd (not-from-none fewer (parent_at t.parents k) l e o up)
    | inr (_, lower) ↦ omega (arith, steps-lower fewer (parent_at t.parents k) l o up)
  ]

  pub under-tree : (i : ℕ) → Occupied s i → (given : ℕ) × ((under s i).answer ≡ hangs (length (marked s i)) given) × Highest s (marked s i) given
  under-tree i o =
      let w = under-any s tree.shape i o in
      let e = w.as_marked (λ steps some _ up. absurd (omega (arith, steps-lower steps i i o up))) in
      (w.highest, w.answers ∙ ap (λ k. hangs k w.highest) e, w.of_marked)

pub under-reached : UnderReached
under-reached s a calls i o = under-tree (run (fresh s).after calls) (demand-3 s a calls).sound.tree i o
