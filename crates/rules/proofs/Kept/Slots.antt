-- One block slot changes and the others stay: stores of a whole block, of a count, of a parent.
use mathlib.Core.Path.{◌≡◌, refl, sym, ap, ◌∙◌}
use mathlib.Core.Logic.{◌≢◌}
use mathlib.Core.Bool.{true, false, not}
use Prim.Native.Nat.{ℕ, suc, ◌%◌, ◌<◌}
use native.Mathlib.Omega.{arith}
use lib.Dec.{eqb}
use lib.ListN.{length, length-set}
use lib.Seq.{get_or-set_same, get_or-set_other}
use borrow.Author.Tests.{eq-eqb, ne_eqb}
use Rattle.rules.specs.Hashes.{hash_length}
use Rattle.rules.specs.Records.{NONE, Blocks, occupied, active, empty_block, block_at, put_block, erase}
use Rattle.rules.specs.Promises.{is_child, children_of}
use Rattle.rules.specs.declared.Block.{Block}
use Rattle.rules.proofs.Splits.{same?, true-not-false, and_false_r}
use Rattle.rules.proofs.Cells.{getD-set-default}
use Rattle.rules.proofs.Kept.Counting.{count-ext, count-drop}
use Rattle.rules.proofs.Kept.Bytes.{put-hash-other, put-hash-here, put-hash-length, zero-length}
use Rattle.rules.proofs.Kept.Table.{size, seq_of, parent_of, count_of, hash_of, is_occupied, is_active, set_count, set_parent, Shape, occupied-lt}

-- the same block in a slot of both tables
pub record Same (t u : Blocks) (j : ℕ) : Type 0 where
  pub hold : is_occupied u j ≡ is_occupied t j
  pub seq : seq_of u j ≡ seq_of t j
  pub parent : parent_of u j ≡ parent_of t j
  pub count : count_of u j ≡ count_of t j
  pub hash : hash_of u j ≡ hash_of t j
  pub chain : is_active u j ≡ is_active t j

pub same_block : (t u : Blocks) (j : ℕ) → block_at u j ≡ block_at t j → Same t u j
unfolding block_at occupied active
same_block t u j e = record {
  hold = ap (λ (x : Block). not (eqb x.sequence.0 NONE)) e;
  seq = ap (λ (x : Block). x.sequence.0) e;
  parent = ap (λ (x : Block). x.parent.0) e;
  count = ap (λ (x : Block). x.count) e;
  hash = ap (λ (x : Block). x.hash) e;
  chain = ap (λ (x : Block). eqb (x.flags % 2) 1) e;
}

-- u is t but for slot i
pub record But (t u : Blocks) (i : ℕ) : Type 0 where
  pub shapes : Shape t → Shape u
  pub sizes : size u ≡ size t
  pub rest : (j : ℕ) → j ≢ i → block_at u j ≡ block_at t j

module _ (t u : Blocks) (i : ℕ) (b : But t u i) where
  module _ (j : ℕ) (ne : j ≢ i) where
    same : Same t u j
    same = same_block t u j (b.rest j ne)

    pub but-seq : seq_of u j ≡ seq_of t j
    but-seq = same.seq

    pub but-parent : parent_of u j ≡ parent_of t j
    but-parent = same.parent

    pub but-count : count_of u j ≡ count_of t j
    but-count = same.count

    pub but-hash : hash_of u j ≡ hash_of t j
    but-hash = same.hash

    pub but-chain : is_active u j ≡ is_active t j
    but-chain = same.chain

    pub but-occupied : is_occupied u j ≡ is_occupied t j
    but-occupied = same.hold

  -- the children of k, where slot i is one before and after or neither
  pub but-kids : (k : ℕ) → is_child u k i ≡ is_child t k i → children_of u k ≡ children_of t k
  unfolding children_of
  but-kids k e = rw b.sizes (count-ext (is_child u k) (is_child t k) (size t) (λ j _. same? j i
      (λ q. rw q e)
      (λ ne. rw (but-seq j ne, but-parent j ne))))

  -- slot i is one after and was none before
  pub but-gains : (k : ℕ) → i < size t → is_child u k i ≡ true → is_child t k i ≡ false → children_of u k ≡ suc (children_of t k)
  unfolding children_of
  but-gains k l e n = rw b.sizes (count-drop (is_child u k) (is_child t k) (size t) i l e n (λ j _ ne. rw (but-seq j ne, but-parent j ne)))

  -- slot i was one and is none
  pub but-loses : (k : ℕ) → i < size t → is_child u k i ≡ false → is_child t k i ≡ true → children_of t k ≡ suc (children_of u k)
  unfolding children_of
  but-loses k l e n = rw b.sizes (count-drop (is_child t k) (is_child u k) (size t) i l n e (λ j _ ne. rw (but-seq j ne, but-parent j ne)))

-- ---- a whole block

module _ (t : Blocks) (i : ℕ) (b : Block) (len : length b.hash ≡ hash_length) where
  pub put-but : But t (put_block t i b) i
  unfolding put_block block_at
  put-but = record {
    shapes = λ s. record {
      some = simp length-set s.some;
      small = simp length-set s.small;
      parents = simp length-set s.parents;
      counts = simp length-set s.counts;
      flagged = simp length-set s.flagged;
      hashed = rw (put-hash-length t.hashes b.hash i len) (simp length-set s.hashed);
    };
    sizes = length-set t.sequences i b.sequence.0;
    rest = λ j ne. rw (
      put-hash-other t.hashes b.hash i len j ne,
      get_or-set_other t.parents i j b.parent.0 NONE ne,
      get_or-set_other t.sequences i j b.sequence.0 NONE ne,
      get_or-set_other t.counts i j b.count 0 ne,
      get_or-set_other t.flags i j b.flags 0 ne,
    );
  }

  pub put-here : Shape t → i < size t → block_at (put_block t i b) i ≡ b
  unfolding put_block block_at
  put-here s l = rw (
    put-hash-here t.hashes b.hash i len (omega (arith, s.hashed)),
    get_or-set_same t.parents i b.parent.0 NONE (omega (arith, s.parents)),
    get_or-set_same t.sequences i b.sequence.0 NONE l,
    get_or-set_same t.counts i b.count 0 (omega (arith, s.counts)),
    get_or-set_same t.flags i b.flags 0 (omega (arith, s.flagged)),
  )

module _ (t : Blocks) (i : ℕ) where
  pub erase-but : But t (erase t i) i
  erase-but = put-but t i _ zero-length

  pub erase-empty : is_occupied (erase t i) i ≡ false
  unfolding put_block occupied
  erase-empty = rw (getD-set-default t.sequences i NONE)

  -- it is no child afterwards
  erased : (k : ℕ) → is_child (erase t i) k i ≡ false
  unfolding put_block
  erased k = rw (getD-set-default t.sequences i NONE)

  pub erase-kids-other : (k : ℕ) → parent_of t i ≢ k → children_of (erase t i) k ≡ children_of t k
  erase-kids-other k ne = but-kids t (erase t i) i erase-but k (erased k ∙ sym (rw (ne_eqb (parent_of t i) k ne) (and_false_r (not (eqb (seq_of t i) NONE)) false refl)))

  pub erase-kids-parent : is_occupied t i ≡ true → children_of t (parent_of t i) ≡ suc (children_of (erase t i) (parent_of t i))
  unfolding occupied
  erase-kids-parent o = but-loses t (erase t i) i erase-but (parent_of t i) (occupied-lt t i o) (erased (parent_of t i)) (rw (o, eq-eqb (parent_of t i) (parent_of t i) refl))

-- ---- a count, a parent

module _ (t : Blocks) (i c : ℕ) where
  pub count-but : But t (set_count t i c) i
  unfolding block_at
  count-but = record {
    shapes = λ s. record { some = s.some; small = s.small; parents = s.parents; counts = simp length-set s.counts; flagged = s.flagged; hashed = s.hashed };
    sizes = refl;
    rest = λ j ne. rw (get_or-set_other t.counts i j c 0 ne);
  }

  pub count-here : Shape t → is_occupied t i ≡ true → count_of (set_count t i c) i ≡ c
  count-here s o = get_or-set_same t.counts i c 0 (let l = occupied-lt t i o in let k = s.counts in omega arith)

  pub count-kids : (k : ℕ) → children_of (set_count t i c) k ≡ children_of t k
  unfolding children_of
  count-kids k = refl

  pub parent-but : But t (set_parent t i c) i
  unfolding block_at
  parent-but = record {
    shapes = λ s. record { some = s.some; small = s.small; parents = simp length-set s.parents; counts = s.counts; flagged = s.flagged; hashed = s.hashed };
    sizes = refl;
    rest = λ j ne. rw (get_or-set_other t.parents i j c NONE ne);
  }

  pub parent-here : Shape t → is_occupied t i ≡ true → parent_of (set_parent t i c) i ≡ c
  parent-here s o = get_or-set_same t.parents i c NONE (let l = occupied-lt t i o in let k = s.parents in omega arith)

-- ---- empty slots are the fixed record

abbrev pub Voids : Blocks → Type 0
Voids t = (i : ℕ) → is_occupied t i ≡ false → block_at t i ≡ empty_block

-- a change of an occupied slot that leaves it occupied
pub but-voids : (t u : Blocks) (i : ℕ) → But t u i → is_occupied u i ≡ true → Voids t → Voids u
but-voids t u i b o v j e = same? j i
    (λ q. true-not-false {b = is_occupied u i} o (rw q at e))
    (λ ne. b.rest j ne ∙ v j (sym (but-occupied t u i b j ne) ∙ e))

pub erase-voids : (t : Blocks) (i : ℕ) → Shape t → is_occupied t i ≡ true → Voids t → Voids (erase t i)
erase-voids t i s o v j e = same? j i
    (λ q. rw q (put-here t i _ zero-length s (occupied-lt t i o)))
    (λ ne. (erase-but t i).rest j ne ∙ v j (sym (but-occupied t (erase t i) i (erase-but t i) j ne) ∙ e))
