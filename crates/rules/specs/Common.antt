-- What 01 takes for granted: the lowest of the numbers that pass a test, the one that goes before all others, how many pass, which pass, those
-- that pass put in an order, and one thing after the other.
use Rattle.std.specs.Prelude.{Bool, false, ◌||◌, if◌then◌else◌, List, [], ◌∷◌, ◌++◌, ℕ, zero, suc, ◌+◌, eqb, Option, None, Some}

abbrev pub is_at : (o : Option ℕ) (k : ℕ) → Bool
is_at None k = false
is_at (Some i) k = eqb i k

-- the lowest number below n that passes
unfoldable pub lowest : (test : ℕ → Bool) (n : ℕ) → Option ℕ
lowest test zero = None
lowest test (suc n) = elim (lowest test n) [ None ↦ if test n then Some n else None | Some i ↦ Some i ]

-- k is taken where nothing was, or where it goes before what was
unfoldable pub better : (before : ℕ → ℕ → Bool) (k : ℕ) (was : Option ℕ) → Option ℕ
better before k None = Some k
better before k (Some b) = if before k b then Some k else Some b

-- of the numbers below n that pass, the one that goes before the others; the lowest of equals
unfoldable pub best : (test : ℕ → Bool) (before : ℕ → ℕ → Bool) (n : ℕ) → Option ℕ
best test before zero = None
best test before (suc n) = if test n then better before n (best test before n) else best test before n

-- how many numbers below n pass
unfoldable pub count_below : (test : ℕ → Bool) (n : ℕ) → ℕ
count_below test zero = 0
count_below test (suc n) = (if test n then 1 else 0) + count_below test n

-- the numbers below n that pass, in order
unfoldable pub all_below : (test : ℕ → Bool) (n : ℕ) → List ℕ
all_below test zero = []
all_below test (suc n) = all_below test n ++ (if test n then n ∷ [] else [])

-- one of a list stands before k
unfoldable pub any_before : (before : ℕ → ℕ → Bool) (k : ℕ) (list : List ℕ) → Bool
any_before before k [] = false
any_before before k (j ∷ js) = before j k || any_before before k js

-- k goes in behind the last that stands before it
unfoldable pub placed : (before : ℕ → ℕ → Bool) (k : ℕ) (list : List ℕ) → List ℕ
placed before k [] = k ∷ []
placed before k (j ∷ js) = if any_before before k (j ∷ js) then j ∷ placed before k js else k ∷ j ∷ js

-- the numbers below n that pass, from 0 up, each put in its place
unfoldable pub placed_below : (test : ℕ → Bool) (before : ℕ → ℕ → Bool) (n : ℕ) → List ℕ
placed_below test before zero = []
placed_below test before (suc n) = if test n then placed before n (placed_below test before n) else placed_below test before n

-- for each number below n, from 0 up
unfoldable pub in_order {ℓ} : {A : Type ℓ} (act : ℕ → A → A) (n : ℕ) (a : A) → A
in_order act zero a = a
in_order act (suc n) a = act n (in_order act n a)
