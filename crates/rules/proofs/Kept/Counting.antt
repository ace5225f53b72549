-- How many numbers below n pass a test, and the pigeonhole.
use Rattle.std.specs.Prelude.{if◌then◌else◌}
use mathlib.Core.Path.{◌≡◌, refl}
use mathlib.Core.Logic.{◌≢◌}
use mathlib.Core.Bool.{Bool, true, false, not, ◌&&◌}
use Prim.Native.Nat.{ℕ, zero, suc, ◌+◌, ◌≤◌, ◌<◌, zero-le}
use native.Mathlib.Omega.{arith}
use native.Mathlib.Nat.{le_refl}
use lib.Dec.{eqb}
use borrow.Author.Tests.{eq-eqb, ne_eqb}
use Rattle.rules.specs.Common.{count_below}
use Rattle.rules.proofs.Splits.{split, same?}
use Rattle.rules.proofs.Each.{count-some}

-- 1 for a test that passes, and 0 for one that fails
abbrev bit : Bool → ℕ
bit b = if b then 1 else 0

-- a number is 0 or one more than another
pub zero? {ℓ} : {A : Type ℓ} (n : ℕ) → (n ≡ 0 → A) → ((m : ℕ) → n ≡ suc m → A) → A
zero? zero f g = f refl
zero? (suc m) f g = g m refl

pub count-ext : (p q : ℕ → Bool) (n : ℕ) → ((j : ℕ) → j < n → p j ≡ q j) → count_below p n ≡ count_below q n
unfolding count_below
count-ext p q zero h = refl
count-ext p q (suc n) h = rw (h n (omega arith), count-ext p q n (λ j l. h j (omega arith)))

pub bit_le : (b : Bool) → bit b ≤ 1
bit_le true = omega arith
bit_le false = omega arith

pub count-le : (p : ℕ → Bool) (n : ℕ) → count_below p n ≤ n
unfolding count_below
count-le p zero = omega arith
count-le p (suc n) = omega (arith, bit_le (p n), count-le p n)

pub bit-mono : (a b : Bool) → (a ≡ true → b ≡ true) → bit a ≤ bit b
bit-mono true b h = rw (h refl) (le_refl 1)
bit-mono false b h = zero-le

pub count-mono : (p q : ℕ → Bool) (n : ℕ) → ((j : ℕ) → j < n → p j ≡ true → q j ≡ true) → count_below p n ≤ count_below q n
unfolding count_below
count-mono p q zero h = omega arith
count-mono p q (suc n) h = omega (arith, bit-mono (p n) (q n) (h n (omega arith)), count-mono p q n (λ j l. h j (omega arith)))

pub count_none : (p : ℕ → Bool) (n : ℕ) → ((j : ℕ) → j < n → p j ≡ false) → count_below p n ≡ 0
unfolding count_below
count_none p zero h = refl
count_none p (suc n) h = rw (h n (omega arith), count_none p n (λ j l. h j (omega arith)))

-- p and q agree but at i, which p counts and q does not
pub count-drop : (p q : ℕ → Bool) (n i : ℕ) → i < n → p i ≡ true → q i ≡ false
    → ((j : ℕ) → j < n → j ≢ i → p j ≡ q j) → count_below p n ≡ suc (count_below q n)
unfolding count_below
count-drop p q zero i l hp hq h = absurd (omega arith)
count-drop p q (suc n) i l hp hq h = same? n i
    (λ e. let hp' : p n ≡ true = rw e hp in let hq' : q n ≡ false = rw e hq in
    rw (hp', hq', count-ext p q n (λ j k. h j (omega arith) (omega arith))) (omega arith))
    (λ ne. rw (h n (omega arith) ne) (omega (arith, count-drop p q n i (omega arith) hp hq (λ j k. h j (omega arith)))))

-- one that is counted
pub count-find : (p : ℕ → Bool) (n : ℕ) → 0 < count_below p n → (i : ℕ) × (i < n) × (p i ≡ true)
unfolding count_below
count-find p zero h = absurd (omega arith)
count-find p (suc n) h = split (p n)
    (λ e. (n, omega arith, e))
    (λ e. let r = count-find p n (let h' = rw e at h in omega arith) in (r.0, omega arith, r.2))

-- not one of the first n passes, or one does
pub count-zero : (p : ℕ → Bool) (n i : ℕ) → count_below p n ≡ 0 → i < n → p i ≡ false
count-zero p n i h l = split (p i) (λ e. absurd (omega (arith, count-some p n i l e))) (λ e. e)

-- q counts all that p does, and i, which p does not
pub count_less : (p q : ℕ → Bool) (n i : ℕ) → i < n → p i ≡ false → q i ≡ true
    → ((j : ℕ) → j < n → p j ≡ true → q j ≡ true) → count_below p n < count_below q n
unfolding count_below
count_less p q zero i l hp hq h = absurd (omega arith)
count_less p q (suc n) i l hp hq h = same? n i
    (λ e. let hp' : p n ≡ false = rw e hp in let hq' : q n ≡ true = rw e hq in
    rw (hp', hq') (omega (arith, count-mono p q n (λ j k. h j (omega arith)))))
    (λ ne. omega (arith, bit-mono (p n) (q n) (h n (omega arith)), count_less p q n i (omega arith) hp hq (λ j k. h j (omega arith))))

pub count-lt : (p : ℕ → Bool) (n i : ℕ) → i < n → p i ≡ false → count_below p n < n
count-lt p n i l e = omega (arith, count_less p (λ _. true) n i l e refl (λ _ _ _. refl), count-le (λ _. true) n)

-- pigeonhole by a relation: each counted j has a counted partner, and no two share one
pub count-rel : (p q : ℕ → Bool) (n m : ℕ) (R : ℕ → ℕ → Type 0)
    → ((j : ℕ) → j < n → p j ≡ true → (k : ℕ) × (k < m) × (q k ≡ true) × R j k)
    → ((i j k : ℕ) → i < n → j < n → p i ≡ true → p j ≡ true → R i k → R j k → i ≡ j)
    → count_below p n ≤ count_below q m
unfolding count_below
count-rel p q zero m R into inj = omega arith
count-rel p q (suc n) m R into inj = split (p n)
    (λ e. go e (into n (omega arith) e) (λ q' into'. count-rel p q' n m R into' (λ i j k li lj. inj i j k (omega arith) (omega arith))))
    (λ e. rw e (omega (arith, count-rel p q n m R (λ j l. into j (omega arith)) (λ i j k li lj. inj i j k (omega arith) (omega arith)))))
  where
    go : p n ≡ true → (k : ℕ) × (k < m) × (q k ≡ true) × R n k
        → ((q' : ℕ → Bool) → ((j : ℕ) → j < n → p j ≡ true → (k : ℕ) × (k < m) × (q' k ≡ true) × R j k) → count_below p n ≤ count_below q' m)
        → bit (p n) + count_below p n ≤ count_below q m
    go e (k, l, h, r) rec =
        let q' : ℕ → Bool = λ x. not (eqb x k) && q x in
        let d : count_below q m ≡ suc (count_below q' m) =
        count-drop q q' m k l h (rw (eq-eqb k k refl)) (λ x _ ne. rw (ne_eqb x k ne)) in
        let c : count_below p n ≤ count_below q' m = rec q' (λ j lj hj.
        let (x, lx, qx, rx) = into j (omega arith) hj in
        let ne : x ≢ k = λ c. absurd (let z = inj j n k (omega arith) (omega arith) hj e (rw c at rx) r in omega arith) in
        (x, lx, rw (ne_eqb x k ne) qx, rx)) in
        rw e (omega arith)
