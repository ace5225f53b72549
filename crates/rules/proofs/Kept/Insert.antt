-- A block is written into an empty slot.
use mathlib.Core.Path.{◌≡◌, refl, sym, ap, ◌∙◌}
use mathlib.Core.Logic.{◌≢◌, ◌⊎◌, inl, inr}
use mathlib.Core.Bool.{true, false}
use mathlib.Core.List.{List}
use Prim.Native.Nat.{ℕ, suc, ◌+◌, ◌<◌, min}
use native.Mathlib.Omega.{arith}
use lib.Dec.{eqb}
use lib.IntN.{pos}
use lib.ListN.{length, set}
use lib.Seq.{set-set, get_or-set_same}
use borrow.Author.Tests.{eq-eqb, ne_eqb, lt-ltb}
use Rattle.rules.specs.Hashes.{hash_length}
use Rattle.rules.specs.Records.{NONE, Blocks, occupied, active, flags_at, slots_of, block_at, put_block}
use Rattle.rules.specs.BlockTable.{adjusted, adjust_counts, adjust, insert_at, max_count}
use Rattle.rules.specs.Calls.{new_block}
use Rattle.rules.specs.Promises.{is_child, children_of}
use Rattle.rules.specs.declared.Block.{Block}
use Rattle.rules.proofs.Splits.{same?, true-not-false}
use Rattle.rules.proofs.Kept.Counting.{count_none}
use Rattle.rules.proofs.Kept.Table.{size, seq_of, parent_of, count_of, hash_of, is_occupied, is_active, Linked, Kept, ne-occupied, empty-eq, occupied-ne, kids-slots}
use Rattle.rules.proofs.Kept.Slots.{But, but-seq, but-parent, but-hash, but-chain, but-occupied, but-kids, but-gains, put-but, put-here, Voids, but-voids}
use Rattle.rules.proofs.Kept.Steady.{Steady}

-- the new block, which counts 1
abbrev pub arrived : ℕ → List ℕ → ℕ → Block
arrived q hash p = record { hash = hash; parent = record { 0 = p }; sequence = record { 0 = q }; count = 1; flags = 0 }

abbrev pub insert : Blocks → ℕ → ℕ → List ℕ → ℕ → Blocks
insert t i q hash p = put_block t i (arrived q hash p)

-- what admission has checked before it writes
pub record Fits (t : Blocks) (i q : ℕ) (hash : List ℕ) (p : ℕ) : Type 0 where
  pub inside : i < size t
  pub free : is_occupied t i ≡ false
  pub seq_ok : q ≢ NONE
  pub len : length hash ≡ hash_length
  pub parent_ok : (p ≡ NONE) ⊎ ((is_occupied t p ≡ true) × (suc (seq_of t p) ≡ q))

module _ (t : Blocks) (i q : ℕ) (hash : List ℕ) (p : ℕ) (k : Kept t) (f : Fits t i q hash p) where
  abbrev u : Blocks
  u = insert t i q hash p

  pub insert-but : But t u i
  insert-but = put-but t i (arrived q hash p) f.len

  insert-here : block_at u i ≡ arrived q hash p
  insert-here = put-here t i (arrived q hash p) f.len k.shape f.inside

  pub insert-seq : seq_of u i ≡ q
  unfolding block_at
  insert-seq = ap (λ (x : Block). x.sequence.0) insert-here

  pub insert-parent : parent_of u i ≡ p
  unfolding block_at
  insert-parent = ap (λ (x : Block). x.parent.0) insert-here

  pub insert-count : count_of u i ≡ 1
  unfolding block_at
  insert-count = ap (λ (x : Block). x.count) insert-here

  pub insert-hash : hash_of u i ≡ hash
  unfolding block_at
  insert-hash = ap (λ (x : Block). x.hash) insert-here

  insert-flags : flags_at u.flags i ≡ 0
  unfolding block_at
  insert-flags = ap (λ (x : Block). x.flags) insert-here

  pub insert-chain : is_active u i ≡ false
  unfolding active
  insert-chain = rw insert-flags

  pub insert-occupied : is_occupied u i ≡ true
  insert-occupied = ne-occupied u i (rw insert-seq f.seq_ok)

  real : i ≢ NONE
  real = let l = f.inside in let s = k.shape.small in omega arith

  -- nobody names an empty slot as parent
  pub unnamed : (j : ℕ) → is_occupied t j ≡ true → parent_of t j ≢ i
  unnamed j o e = elim (k.linked j o) [
    | inl n ↦ absurd (real (sym e ∙ n))
    | inr w ↦ true-not-false {b = is_occupied t i} (rw e at w.0) f.free
  ]

  pub parent-not-self : p ≢ i
  parent-not-self e = elim f.parent_ok [
    | inl n ↦ absurd (real (sym e ∙ n))
    | inr w ↦ true-not-false {b = is_occupied t i} (rw e at w.0) f.free
  ]

  before : (x : ℕ) → is_child t x i ≡ false
  before x = rw (empty-eq t i f.free)

  after : (x : ℕ) → is_child u x i ≡ eqb p x
  after x = rw (ne_eqb (seq_of u i) NONE (occupied-ne u i insert-occupied), insert-parent)

  pub insert-kids-other : (x : ℕ) → p ≢ x → children_of u x ≡ children_of t x
  insert-kids-other x ne = but-kids t u i insert-but x (after x ∙ ne_eqb p x ne ∙ sym (before x))

  pub insert-kids-parent : children_of u p ≡ suc (children_of t p)
  insert-kids-parent = but-gains t u i insert-but p f.inside (after p ∙ eq-eqb p p refl) (before p)

  empty-kids : children_of t i ≡ 0
  unfolding children_of
  empty-kids = count_none (is_child t i) (size t) (λ j _. same? (seq_of t j) NONE
      (λ e. rw e)
      (λ ne. rw (ne_eqb (seq_of t j) NONE ne, ne_eqb (parent_of t j) i (unnamed j (ne-occupied t j ne)))))

  pub insert-kids : children_of u i ≡ 0
  insert-kids = insert-kids-other i parent-not-self ∙ empty-kids

  pub insert-linked : Linked u
  insert-linked j o = let b = insert-but in same? j i
      (λ e. rw (e, insert-parent, insert-seq) (elim f.parent_ok [
        | inl n ↦ inl n
        | inr w ↦ inr (but-occupied t u i b p parent-not-self ∙ w.0, rw (but-seq t u i b p parent-not-self) w.1)
      ]))
      (λ ne.
      let o' : is_occupied t j ≡ true = sym (but-occupied t u i b j ne) ∙ o in
      let np : parent_of t j ≢ i = unnamed j o' in
      rw (but-parent t u i b j ne, but-seq t u i b j ne) (elim (k.linked j o') [
        | inl n ↦ inl n
        | inr w ↦ inr (but-occupied t u i b (parent_of t j) np ∙ w.0, rw (but-seq t u i b (parent_of t j) np) w.1)
      ]))

  pub insert-voids : Voids t → Voids u
  insert-voids = but-voids t u i insert-but insert-occupied

  pub insert-steady : Steady i t u
  insert-steady =
      let b = insert-but in
      let old : (j : ℕ) → is_occupied t j ≡ true → j ≢ i = λ j o e. true-not-false {b = is_occupied t i} (rw e at o) f.free in
      record {
        keeps = λ j o a. let ne = old j o in (but-occupied t u i b j ne ∙ o, but-chain t u i b j ne ∙ a, λ _. but-parent t u i b j ne);
        back = λ j o a.
            let ne : j ≢ i = λ e. true-not-false {b = is_active u j} a (rw e insert-chain) in
            (sym (but-occupied t u i b j ne) ∙ o, sym (but-chain t u i b j ne) ∙ a);
        same = λ j ne o. (sym (but-occupied t u i b j ne) ∙ o, but-seq t u i b j ne, but-hash t u i b j ne);
      }

  -- ---- as the rule does it: the count is 0, and then rises to 1

  pub insert-is : adjust (insert_at t i (new_block q hash p)) i (pos 1) ≡ u
  unfolding adjust adjust_counts adjusted insert_at put_block
  insert-is =
      let o : occupied (set t.sequences i q) i ≡ true = (let w = insert-occupied in w) in
      rw (lt-ltb i (slots_of t.sequences) (rw (kids-slots t k.shape) f.inside), o)
      (rw (get_or-set_same t.counts i 0 0 (let l = f.inside in let c = k.shape.counts in omega arith), set-set t.counts i 0 (min max_count (0 + 1))))
