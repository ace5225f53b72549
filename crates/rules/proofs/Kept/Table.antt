-- The block table as the proofs read it: a table at a time, and what is kept of it.
use mathlib.Core.Path.{◌≡◌}
use mathlib.Core.Logic.{◌≢◌, ◌⊎◌, inl, inr}
use mathlib.Core.Bool.{Bool, true, false}
use mathlib.Core.List.{List}
use Prim.Native.Nat.{ℕ, suc, ◌*◌, ◌≤◌, ◌<◌, max}
use native.Mathlib.Omega.{arith}
use lib.Dec.{eqb}
use lib.ListN.{length, set, get_or-eq_default}
use borrow.Author.Tests.{eqb-true, eqb-false, eq-eqb, ne_eqb, not-true, not-false}
use Rattle.rules.specs.Hashes.{hash_at, hash_length}
use Rattle.rules.specs.Records.{NONE, Blocks, sequence_at, parent_at, count_at, occupied, active, slots_of, with_counts, with_parents}
use Rattle.rules.specs.Promises.{is_child, children_of}
use Rattle.rules.specs.Calls.{max_blocks}
use Rattle.rules.proofs.Splits.{split, less?, true-not-false}
use Rattle.rules.proofs.Kept.Counting.{count-zero}

abbrev pub size : Blocks → ℕ
size t = length t.sequences

abbrev pub seq_of : Blocks → ℕ → ℕ
seq_of t i = sequence_at t.sequences i

abbrev pub parent_of : Blocks → ℕ → ℕ
parent_of t i = parent_at t.parents i

abbrev pub count_of : Blocks → ℕ → ℕ
count_of t i = count_at t.counts i

abbrev pub hash_of : Blocks → ℕ → List ℕ
hash_of t i = hash_at t.hashes i

abbrev pub is_occupied : Blocks → ℕ → Bool
is_occupied t i = occupied t.sequences i

abbrev pub is_active : Blocks → ℕ → Bool
is_active t i = active t.flags i

abbrev pub set_count : Blocks → ℕ → ℕ → Blocks
set_count t i c = with_counts t (set t.counts i c)

abbrev pub set_parent : Blocks → ℕ → ℕ → Blocks
set_parent t i p = with_parents t (set t.parents i p)

-- ---- what is kept

pub record Shape (t : Blocks) : Type 0 where
  pub some : 1 ≤ size t
  pub small : size t ≤ max_blocks
  pub parents : length t.parents ≡ size t
  pub counts : length t.counts ≡ size t
  pub flagged : length t.flags ≡ size t
  pub hashed : length t.hashes ≡ size t * hash_length

-- the parent of an occupied block is NONE, or an occupied slot one lower in sequence
abbrev pub Linked : Blocks → Type 0
Linked t = (i : ℕ) → is_occupied t i ≡ true → (parent_of t i ≡ NONE) ⊎ ((is_occupied t (parent_of t i) ≡ true) × (suc (seq_of t (parent_of t i)) ≡ seq_of t i))

pub record Kept (t : Blocks) : Type 0 where
  pub shape : Shape t
  pub linked : Linked t
  pub counted : (i : ℕ) → is_occupied t i ≡ true → is_active t i ≡ false → count_of t i ≡ max 1 (children_of t i)

-- ---- tests as facts

module _ (t : Blocks) (i : ℕ) where
  pub occupied-ne : is_occupied t i ≡ true → seq_of t i ≢ NONE
  unfolding occupied
  occupied-ne h = eqb-false (seq_of t i) NONE (not-true (eqb (seq_of t i) NONE) h)

  pub ne-occupied : seq_of t i ≢ NONE → is_occupied t i ≡ true
  unfolding occupied
  ne-occupied h = rw (ne_eqb (seq_of t i) NONE h)

  pub empty-eq : is_occupied t i ≡ false → seq_of t i ≡ NONE
  unfolding occupied
  empty-eq h = eqb-true (seq_of t i) NONE (not-false (eqb (seq_of t i) NONE) h)

  pub occupied-lt : is_occupied t i ≡ true → i < size t
  occupied-lt h = less? i (size t) (λ l. l) (λ l. absurd (occupied-ne h (get_or-eq_default t.sequences NONE l)))

  pub occupied-real : Shape t → is_occupied t i ≡ true → i ≢ NONE
  occupied-real s o = let l = occupied-lt o in let k = s.small in omega arith

pub none-empty : (t : Blocks) → Shape t → is_occupied t NONE ≡ false
none-empty t s = split (is_occupied t NONE) (λ e. absurd (let l = occupied-lt t NONE e in let k = s.small in omega arith)) (λ e. e)

pub kids-slots : (t : Blocks) → Shape t → slots_of t.sequences ≡ size t
unfolding slots_of
kids-slots t s = let k = s.small in omega arith

pub childless : (t : Blocks) (i j : ℕ) → children_of t i ≡ 0 → is_occupied t j ≡ true → parent_of t j ≢ i
unfolding children_of occupied
childless t i j h o q =
    let z : is_child t i j ≡ false = count-zero (is_child t i) (size t) j h (occupied-lt t j o) in
    true-not-false {b = is_child t i j} (rw (o, eq-eqb (parent_of t j) i q)) z

pub parent-there : (t : Blocks) (i : ℕ) → Linked t → is_occupied t i ≡ true → parent_of t i ≢ NONE → (is_occupied t (parent_of t i) ≡ true) × (suc (seq_of t (parent_of t i)) ≡ seq_of t i)
parent-there t i l o ne = elim (l i o) [ inl e ↦ absurd (ne e) | inr p ↦ p ]
