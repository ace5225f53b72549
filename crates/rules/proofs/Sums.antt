-- What numbers come to together, by addition or by the greater of two: one law for both.
use Rattle.std.specs.Prelude.{if◌then◌else◌}
use mathlib.Core.Path.{◌≡◌, refl, sym, ap, ◌∙◌}
use mathlib.Core.Logic.{◌≢◌}
use mathlib.Core.Bool.{Bool, true, false}
use mathlib.Core.List.{List, [], ◌∷◌, ◌++◌}
use Prim.Native.Nat.{ℕ, zero, suc, ◌+◌, ◌<◌, ◌≤◌, max}
use native.Mathlib.Omega.{arith}
use lib.ListN.{length}
use Rattle.rules.specs.Common.{all_below}
use Rattle.rules.proofs.Splits.{split, same?}

-- numbers are joined in any order, and 0 adds nothing
pub record Joins (op : ℕ → ℕ → ℕ) : Type 0 where
  pub assoc : (a b c : ℕ) → op (op a b) c ≡ op a (op b c)
  pub comm : (a b : ℕ) → op a b ≡ op b a
  pub none : (a : ℕ) → op a 0 ≡ a

pub adding : Joins ◌+◌
adding = record { assoc = λ a b c. omega arith; comm = λ a b. omega arith; none = λ a. omega arith }

pub greater : Joins max
greater = record { assoc = λ a b c. omega arith; comm = λ a b. omega arith; none = λ a. omega arith }

-- over the numbers below n
unfoldable pub over : (op : ℕ → ℕ → ℕ) (f : ℕ → ℕ) (n : ℕ) → ℕ
over op f zero = 0
over op f (suc n) = op (over op f n) (f n)

-- over a list
unfoldable pub along : (op : ℕ → ℕ → ℕ) (f : ℕ → ℕ) (l : List ℕ) → ℕ
along op f [] = 0
along op f (i ∷ is) = op (f i) (along op f is)

abbrev pub only : (b : Bool) (x : ℕ) → ℕ
only b x = if b then x else 0

pub over-ext : (op : ℕ → ℕ → ℕ) (f g : ℕ → ℕ) (n : ℕ) → ((i : ℕ) → i < n → f i ≡ g i) → over op f n ≡ over op g n
unfolding over
over-ext op f g zero h = refl
over-ext op f g (suc n) h = rw (h n (omega arith), over-ext op f g n (λ i l. h i (omega arith)))

module _ (op : ℕ → ℕ → ℕ) (j : Joins op) where
  -- ---- two at a time

  pub none_left : (a : ℕ) → op 0 a ≡ a
  none_left a = j.comm 0 a ∙ j.none a

  four : (a b c d : ℕ) → op (op a b) (op c d) ≡ op (op a c) (op b d)
  four a b c d =
      j.assoc a b (op c d) ∙ ap (op a) (sym (j.assoc b c d) ∙ ap (λ x. op x d) (j.comm b c) ∙ j.assoc c b d) ∙ sym (j.assoc a c (op b d))

  -- ---- below n

  pub over_none : (f : ℕ → ℕ) (n : ℕ) → ((i : ℕ) → i < n → f i ≡ 0) → over op f n ≡ 0
  unfolding over
  over_none f zero h = refl
  over_none f (suc n) h = rw (h n (omega arith), over_none f n (λ i l. h i (omega arith))) (j.none 0)

  -- one alone adds something
  pub over-one : (f : ℕ → ℕ) (n i : ℕ) → i < n → ((k : ℕ) → k < n → k ≢ i → f k ≡ 0) → over op f n ≡ f i
  unfolding over
  over-one f zero i l h = absurd (omega arith)
  over-one f (suc n) i l h = same? n i
      (λ e. rw (over_none f n (λ k b. h k (omega arith) (omega arith)), e) (none_left (f i)))
      (λ ne. rw (h n (omega arith) ne, over-one f n i (omega arith) (λ k b. h k (omega arith))) (j.none (f i)))

  over-both : (f g : ℕ → ℕ) (n : ℕ) → over op (λ i. op (f i) (g i)) n ≡ op (over op f n) (over op g n)
  unfolding over
  over-both f g zero = sym (j.none 0)
  over-both f g (suc n) = rw (over-both f g n) (four (over op f n) (over op g n) (f n) (g n))

  -- by rows or by columns
  pub over-swap : (f : ℕ → ℕ → ℕ) (n m : ℕ) → over op (λ i. over op (f i) m) n ≡ over op (λ k. over op (λ i. f i k) n) m
  unfolding over
  over-swap f zero m = sym (over_none (λ _. 0) m (λ _ _. refl))
  over-swap f (suc n) m = rw (over-swap f n m) (sym (over-both (λ k. over op (λ i. f i k) n) (f n) m))

  -- the first apart
  pub over_first : (f : ℕ → ℕ) (n : ℕ) → over op f (suc n) ≡ op (f 0) (over op (λ i. f (suc i)) n)
  unfolding over
  over_first f zero = j.comm 0 (f 0)
  over_first f (suc n) = ap (λ x. op x (f (suc n))) (over_first f n) ∙ j.assoc (f 0) (over op (λ i. f (suc i)) n) (f (suc n))

  pub over-only : (b : Bool) (f : ℕ → ℕ) (n : ℕ) → over op (λ i. only b (f i)) n ≡ only b (over op f n)
  over-only true f n = refl
  over-only false f n = over_none (λ _. 0) n (λ _ _. refl)

  -- ---- in a list

  pub along-append : (f : ℕ → ℕ) (l k : List ℕ) → along op f (l ++ k) ≡ op (along op f l) (along op f k)
  unfolding along
  along-append f [] k = sym (none_left (along op f k))
  along-append f (i ∷ l) k = rw (along-append f l k) (sym (j.assoc (f i) (along op f l) (along op f k)))

  pub along-below : (f : ℕ → ℕ) (test : ℕ → Bool) (n : ℕ) → along op f (all_below test n) ≡ over op (λ i. only (test i) (f i)) n
  unfolding over along all_below
  along-below f test zero = refl
  along-below f test (suc n) = split (test n)
      (λ e. rw (e, along-append f (all_below test n) (n ∷ []), along-below f test n) (ap (op (over op (λ i. only (test i) (f i)) n)) (j.none (f n))))
      (λ e. rw (e, along-append f (all_below test n) [], along-below f test n))

pub length-along : (l : List ℕ) → length l ≡ along ◌+◌ (λ _. 1) l
unfolding along
length-along [] = refl
length-along (i ∷ l) = omega (arith, length-along l)

-- the greatest of numbers that are no greater than x
pub over-most : (f : ℕ → ℕ) (x n : ℕ) → ((i : ℕ) → i < n → f i ≤ x) → over max f n ≤ x
unfolding over
over-most f x zero h = omega arith
over-most f x (suc n) h = omega (arith, h n (omega arith), over-most f x n (λ i l. h i (omega arith)))
