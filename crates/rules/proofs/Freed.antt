-- A list of freed blocks, from a place on: what the next one does, and what is found.
use mathlib.Core.Path.{◌≡◌, refl}
use mathlib.Core.Logic.{◌≢◌}
use mathlib.Core.Bool.{true, false}
use mathlib.Core.List.{List}
use Prim.Native.Nat.{ℕ, ◌+◌, ◌<◌, ◌≤◌}
use native.Mathlib.Numerals.{add-one}
use borrow.Author.Tests.{eq-eqb, ne_eqb}
use lib.ListN.{length, get_or, drop, drop_of_length-le}
use lib.Seq.{drop-cons}
use Rattle.rules.specs.Records.{Blocks}
use Rattle.rules.specs.BlockTable.{delete}
use Rattle.rules.specs.Removal.{listed, free_all}

module _ (l : List ℕ) (k : ℕ) where
  pub free-next : (b : Blocks) → k < length l → free_all (drop k l) b ≡ free_all (drop (k + 1) l) (delete b (get_or l k 0))
  unfolding free_all
  free-next b h = rw (add-one, drop-cons l k 0 h) refl

  pub free-end : (b : Blocks) → length l ≤ k → free_all (drop k l) b ≡ b
  unfolding free_all
  free-end b h = rw (drop_of_length-le l h) refl

  pub listed_here : (i : ℕ) → k < length l → get_or l k 0 ≡ i → listed (drop k l) i ≡ true
  unfolding listed
  listed_here i h e = rw (drop-cons l k 0 h) (rw (eq-eqb (get_or l k 0) i e))

  pub listed_next : (i : ℕ) → k < length l → get_or l k 0 ≢ i → listed (drop k l) i ≡ listed (drop (k + 1) l) i
  unfolding listed
  listed_next i h ne = rw (add-one, drop-cons l k 0 h) (rw (ne_eqb (get_or l k 0) i ne))

  pub listed-end : (i : ℕ) → length l ≤ k → listed (drop k l) i ≡ false
  unfolding listed
  listed-end i h = rw (drop_of_length-le l h) refl
