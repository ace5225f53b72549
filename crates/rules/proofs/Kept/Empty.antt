-- Tables with all records empty.
use mathlib.Core.Path.{◌≡◌, refl, sym, ◌∙◌}
use mathlib.Core.Bool.{true}
use Prim.Native.Nat.{ℕ, ◌+◌, ◌*◌, ◌≤◌}
use native.Mathlib.Omega.{arith}
use lib.ListN.{get_or, replicate, length-replicate, get_or-replicate, get_or-eq_default}
use Rattle.rules.specs.Hashes.{hash_at, hash_length, zero_hash}
use Rattle.rules.specs.Records.{NONE, empty_block, empty_head, block_at, empty_blocks, empty_heads, head_at}
use Rattle.rules.specs.Calls.{max_blocks, min_heads, max_heads}
use Rattle.rules.proofs.Splits.{less?}
use Rattle.rules.proofs.Hashes.{hash-is}
use Rattle.rules.proofs.Kept.Bytes.{zero-length}
use Rattle.rules.proofs.Kept.Table.{is_occupied, Shape, occupied-ne}
use Rattle.rules.proofs.Kept.Seats.{room, in_use, Room, use-ne}

-- every cell of a list of defaults is the default
same-cells : (n i d : ℕ) → get_or (replicate n d) i d ≡ d
same-cells n i d = less? i n
    (λ l. get_or-replicate n i d d l)
    (λ l. get_or-eq_default (replicate n d) d (let e = length-replicate n d in omega arith))

same-hashes : (n i : ℕ) → hash_at (replicate n 0) i ≡ zero_hash
same-hashes n i = sym (hash-is (replicate n 0) zero_hash i zero-length (λ k _. same-cells hash_length k 0 ∙ sym (same-cells n (i * hash_length + k) 0)))

module _ (n : ℕ) where
  pub no_block : (i : ℕ) → block_at (empty_blocks n) i ≡ empty_block
  unfolding empty_blocks block_at
  no_block i = rw (same-hashes (n * hash_length) i, same-cells n i NONE, same-cells n i 0) refl

  pub none-held : (i : ℕ) → is_occupied (empty_blocks n) i ≡ true → ⊥
  unfolding empty_blocks
  none-held i o = occupied-ne (empty_blocks n) i o (same-cells n i NONE)

  pub empty-shape : 1 ≤ n → n ≤ max_blocks → Shape (empty_blocks n)
  unfolding empty_blocks
  empty-shape a b =
      let e = length-replicate n NONE in
      let z = length-replicate {A = ℕ} n 0 in
      record {
        some = omega arith;
        small = omega arith;
        parents = refl;
        counts = z ∙ sym e;
        flagged = z ∙ sym e;
        hashed = length-replicate {A = ℕ} (n * hash_length) 0 ∙ rw e refl;
      }

module _ (m : ℕ) where
  pub no-head : (k : ℕ) → head_at (empty_heads m) k ≡ empty_head
  unfolding empty_heads head_at
  no-head k = rw (same-hashes (m * hash_length) k, same-cells m k NONE, same-cells m k 0) refl

  pub none-used : (k : ℕ) → in_use (empty_heads m) k ≡ true → ⊥
  unfolding empty_heads
  none-used k u = use-ne (empty_heads m) k u (same-cells m k NONE)

  pub empty-rooms : room (empty_heads m) ≡ m
  unfolding empty_heads
  empty-rooms = length-replicate m NONE

  pub empty-room : min_heads ≤ m → m ≤ max_heads → Room (empty_heads m)
  unfolding empty_heads
  empty-room a b =
      let e = length-replicate m NONE in
      let z = length-replicate {A = ℕ} m 0 in
      record {
        two = omega arith;
        few = omega arith;
        tailed = refl;
        missed = length-replicate {A = ℕ} (m * hash_length) 0 ∙ rw e refl;
        asked = z ∙ sym e;
        arrived = z ∙ sym e;
        flagged = z ∙ sym e;
      }
