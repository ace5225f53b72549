-- What is done for each number in turn, seen cell by cell, and a count that is above 0.
use mathlib.Core.Path.{◌≡◌, refl, ◌∙◌}
use mathlib.Core.Logic.{◌≢◌}
use mathlib.Core.Bool.{Bool, true}
use mathlib.Core.List.{List}
use Prim.Native.Nat.{ℕ, zero, suc, ◌<◌, ◌≤◌}
use native.Mathlib.Omega.{arith}
use lib.ListN.{length, get_or}
use Rattle.rules.specs.Common.{count_below, in_order}
use Rattle.rules.proofs.Splits.{same?}

-- ---- counts

-- one that passes makes the count positive
pub count-some : (test : ℕ → Bool) (n i : ℕ) → i < n → test i ≡ true → 0 < count_below test n
unfolding count_below
count-some test zero i l t = absurd (omega arith)
count-some test (suc n) i l t = same? i n
    (λ e. let t' : test n ≡ true = rw e at t in rw t' (omega arith))
    (λ ne. omega (arith, count-some test n i (omega arith) t))

-- ---- a list that keeps its length

module _ (act : ℕ → List ℕ → List ℕ) (len : (j : ℕ) (l : List ℕ) → length (act j l) ≡ length l) where
  pub each-length : (k : ℕ) (l : List ℕ) → length (in_order act k l) ≡ length l
  unfolding in_order
  each-length zero l = refl
  each-length (suc k) l = len k (in_order act k l) ∙ each-length k l

-- ---- where each turn writes its own cell only

module _ (act : ℕ → List ℕ → List ℕ) (other : (j i : ℕ) (l : List ℕ) → i ≢ j → get_or (act j l) i 0 ≡ get_or l i 0) where
  -- a cell whose turn has not come
  pub each-later : (k i : ℕ) (l : List ℕ) → k ≤ i → get_or (in_order act k l) i 0 ≡ get_or l i 0
  unfolding in_order
  each-later zero i l h = refl
  each-later (suc k) i l h = other k i (in_order act k l) (omega arith) ∙ each-later k i l (omega arith)

  -- a cell is as its own turn left it
  pub each-done : (k i : ℕ) (l : List ℕ) → i < k → get_or (in_order act k l) i 0 ≡ get_or (act i (in_order act i l)) i 0
  unfolding in_order
  each-done zero i l h = absurd (omega arith)
  each-done (suc k) i l h = same? i k
      (λ e. rw e refl)
      (λ ne. other k i (in_order act k l) ne ∙ each-done k i l (omega arith))
