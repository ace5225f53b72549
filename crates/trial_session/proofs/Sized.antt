-- Tables of n and m slots: the front of arrays, fresh tables, and what shape they have.
use mathlib.Core.Path.{◌≡◌, refl, sym, ◌∙◌}
use mathlib.Core.Bool.{Bool, true, ◌&&◌}
use mathlib.Core.List.{List}
use Prim.Native.Nat.{ℕ, ◌*◌, ◌≤◌, min}
use native.Mathlib.Omega.{arith}
use borrow.Author.Tests.{eq-eqb, le-leb, leb-true, leb-false}
use lib.Dec.{leb}
use lib.ListN.{length, take, length-take, length-replicate}
use Rattle.rules.specs.Hashes.{hash_length}
use Rattle.rules.specs.Records.{Tables, empty_blocks, empty_heads, blocks_fit, heads_fit}
use Rattle.rules.specs.Calls.{max_blocks, min_heads, max_heads, shaped, fresh_state}
use Rattle.rules.proofs.Splits.{split, and-true}
use Rattle.trial_fronts.specs.Fronts.{array_blocks, array_heads, Sized, front}

-- their shape goes by n and m alone
within : ℕ → ℕ → Bool
within n m = leb 1 n && leb n max_blocks && leb min_heads m && leb m max_heads && true && true

sized-shape : (n m : ℕ) (t : Tables) → Sized n m t → shaped t ≡ within n m
unfolding shaped blocks_fit heads_fit within
sized-shape n m t z =
    rw (
      z.blocks.hashes,
      z.blocks.parents,
      z.blocks.sequences,
      z.blocks.counts,
      z.blocks.flags,
      z.heads.tips,
      z.heads.tails,
      z.heads.missing,
      z.heads.requested,
      z.heads.arrivals,
      z.heads.connected,
      eq-eqb (n * hash_length) (n * hash_length) refl,
      eq-eqb n n refl,
      eq-eqb (m * hash_length) (m * hash_length) refl,
      eq-eqb m m refl,
    )

-- ---- the front of arrays

taken : (k n : ℕ) (xs : List ℕ) → length xs ≡ n → length (take k xs) ≡ min k n
taken k n xs e = omega (arith, length-take k xs)

pub sized-front : (k j n m : ℕ) (t : Tables) → Sized n m t → Sized (min k n) (min j m) (front k j t)
unfolding front
sized-front k j n m t z = record {
  blocks = record {
    hashes = let e = length-take (k * hash_length) t.blocks.hashes in let h = z.blocks.hashes in omega arith;
    parents = taken k n t.blocks.parents z.blocks.parents;
    sequences = taken k n t.blocks.sequences z.blocks.sequences;
    counts = taken k n t.blocks.counts z.blocks.counts;
    flags = taken k n t.blocks.flags z.blocks.flags;
  };
  heads = record {
    tips = taken j m t.heads.tips z.heads.tips;
    tails = taken j m t.heads.tails z.heads.tails;
    missing = let e = length-take (j * hash_length) t.heads.missing in let h = z.heads.missing in omega arith;
    requested = taken j m t.heads.requested z.heads.requested;
    arrivals = taken j m t.heads.arrivals z.heads.arrivals;
    connected = taken j m t.heads.connected z.heads.connected;
  };
}

-- ---- fresh tables

pub sized_fresh : (n m : ℕ) → Sized n m (fresh_state n m).tables
unfolding fresh_state empty_blocks empty_heads
sized_fresh n m = record {
  blocks = record {
    hashes = length-replicate _ _;
    parents = length-replicate _ _;
    sequences = length-replicate _ _;
    counts = length-replicate _ _;
    flags = length-replicate _ _;
  };
  heads = record {
    tips = length-replicate _ _;
    tails = length-replicate _ _;
    missing = length-replicate _ _;
    requested = length-replicate _ _;
    arrivals = length-replicate _ _;
    connected = length-replicate _ _;
  };
}

leb-alike : (a b c d : ℕ) → (a ≤ b → c ≤ d) → (c ≤ d → a ≤ b) → leb a b ≡ leb c d
leb-alike a b c d f g =
    split (leb a b)
    (λ e. e ∙ sym (le-leb c d (f (leb-true a b e))))
    (λ e. split (leb c d)
    (λ h. let l = leb-false a b e in let q = g (leb-true c d h) in absurd (omega arith))
    (λ h. e ∙ sym h))

-- arrays with one slot more than tables may have: their front has the shape of fresh tables of its size
pub front-shape : (k j : ℕ) (t : Tables) → Sized array_blocks array_heads t → shaped (front k j t) ≡ shaped (fresh_state k j).tables
unfolding within
front-shape k j t z =
    let a = leb-alike 1 (min k array_blocks) 1 k (λ h. omega arith) (λ h. omega arith) in
    let b = leb-alike (min k array_blocks) max_blocks k max_blocks (λ h. omega arith) (λ h. omega arith) in
    let c = leb-alike min_heads (min j array_heads) min_heads j (λ h. omega arith) (λ h. omega arith) in
    let d = leb-alike (min j array_heads) max_heads j max_heads (λ h. omega arith) (λ h. omega arith) in
    sized-shape (min k array_blocks) (min j array_heads) (front k j t) (sized-front k j array_blocks array_heads t z)
    ∙ rw (a, b, c, d) (sym (sized-shape k j (fresh_state k j).tables (sized_fresh k j)))

-- and where it has, it has so many slots
pub shaped-within : (k j : ℕ) → shaped (fresh_state k j).tables ≡ true → (k ≤ max_blocks) × (j ≤ max_heads)
unfolding within
shaped-within k j e =
    let w : within k j ≡ true = sym (sized-shape k j (fresh_state k j).tables (sized_fresh k j)) ∙ e in
    let few = leb 1 k && leb k max_blocks in
    let all = few && leb min_heads j && leb j max_heads in
    let a = (and-true all true (and-true (all && true) true w).0).0 in
    let b = and-true (few && leb min_heads j) (leb j max_heads) a in
    let c = and-true few (leb min_heads j) b.0 in
    (leb-true k max_blocks (and-true (leb 1 k) (leb k max_blocks) c.0).1, leb-true j max_heads b.1)
