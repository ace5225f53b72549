-- A block is looked for only where the sequence fits.
use mathlib.Core.Path.{◌≡◌}
use mathlib.Core.Logic.{◌≢◌}
use mathlib.Core.Bool.{false, not}
use mathlib.Core.List.{List}
use Rattle.std.specs.Prelude.{None, Some}
use Prim.Native.Nat.{ℕ, ◌+◌}
use native.Mathlib.Omega.{arith}
use lib.Dec.{eqb}
use Rattle.rules.specs.Common.{lowest}
use Rattle.rules.specs.Hashes.{hash_at, same_hash}
use Rattle.rules.specs.Records.{NONE, sequence_at, occupied}
use Rattle.rules.specs.BlockTable.{is_block, next_free}
use Rattle.rules.proofs.Search.{lowest-none, lowest-skips, lowest-next}
use Rattle.cells.specs.Places.{next_at}
use Rattle.cells.proofs.Places.{Searched, search-first, search-from, next-lowest}

pub free : (sequences : List ℕ) (i : ℕ) → not (occupied sequences i) ≡ eqb (sequence_at sequences i) NONE
unfolding occupied
free sequences i = grind arith

-- the next slot without a block is the lowest
pub next_free_slot : (sequences : List ℕ) → next_at sequences 0 NONE ≡ next_free sequences
unfolding next_free
next_free_slot sequences = next-lowest sequences NONE _ (free sequences)

module _ (hashes sequences : List ℕ) (sequence : ℕ) (hash : List ℕ) where
  pub other : (i : ℕ) → sequence_at sequences i ≢ sequence → is_block hashes sequences sequence hash i ≡ false
  unfolding is_block
  other i ne = grind arith

  pub fits : (i : ℕ) → sequence ≢ NONE → sequence_at sequences i ≡ sequence
      → is_block hashes sequences sequence hash i ≡ same_hash (hash_at hashes i) hash
  unfolding is_block occupied
  fits i ne e = grind arith

  empty : (i : ℕ) → sequence ≡ NONE → is_block hashes sequences sequence hash i ≡ false
  unfolding is_block occupied
  empty i q = grind arith

  -- an empty slot is no block
  pub none_found : (n : ℕ) → sequence ≡ NONE → lowest (is_block hashes sequences sequence hash) n ≡ None
  none_found n e = lowest-skips _ 0 n (omega arith) (lowest-none _) (λ i a b. empty i e)

  pub found-first : Searched sequences sequence (is_block hashes sequences sequence hash) (next_at sequences 0 sequence)
  found-first = search-first sequences sequence _ other

  pub found-next : (i : ℕ) → Searched sequences sequence (is_block hashes sequences sequence hash) (Some i)
      → is_block hashes sequences sequence hash i ≡ false
      → Searched sequences sequence (is_block hashes sequences sequence hash) (next_at sequences (i + 1) sequence)
  found-next i s f = search-from sequences sequence _ other (i + 1) (omega (arith, s.0)) (lowest-next _ i s.1.0 f)
