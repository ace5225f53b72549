-- Cells of a list: a read with one default or another, a store of the default, a run of stores.
use mathlib.Core.Path.{◌≡◌, refl, ap, ◌∙◌}
use mathlib.Core.List.{List, [], ◌∷◌, ◌++◌}
use Prim.Native.Nat.{ℕ, zero, suc, ◌+◌, ◌<◌, ◌≤◌}
use native.Mathlib.Nat.{add-zero}
use native.Mathlib.Omega.{arith}
use lib.ListN.{length, get_or, set, take, length-set, get_or-eq_default}
use lib.Seq.{sets, get_or-set_same, set_out}
use Rattle.rules.proofs.Splits.{less?}

-- in range the default does not matter
pub get_d_any : (l : List ℕ) (i d e : ℕ) → i < length l → get_or l i d ≡ get_or l i e
get_d_any [] i d e h = absurd (omega arith)
get_d_any (x ∷ l) zero d e h = refl
get_d_any (x ∷ l) (suc i) d e h = get_d_any l i d e (omega arith)

-- a store of the default leaves the default, in range or not
pub getD-set-default : (l : List ℕ) (i d : ℕ) → get_or (set l i d) i d ≡ d
getD-set-default l i d = less? i (length l)
    (λ h. get_or-set_same l i d d h)
    (λ h. rw (set_out l i d h) (get_or-eq_default l d h))

-- one store more of a run
pub sets-next : (l vs : List ℕ) (i k : ℕ) → k < length vs → sets l i (take (k + 1) vs) ≡ set (sets l i (take k vs)) (i + k) (get_or vs k 0)
sets-next l [] i k h = absurd (omega arith)
sets-next l (v ∷ vs) i zero h = rw add-zero refl
sets-next l (v ∷ vs) i (suc k) h =
    let e : suc i + k ≡ i + suc k = omega arith in
    let g : suc k + 1 ≡ suc (k + 1) = omega arith in
    rw g (sets-next (set l i v) vs (suc i) k (omega arith) ∙ ap (λ (j : ℕ). set (sets (set l i v) (suc i) (take k vs)) j (get_or vs k 0)) e)

-- a run of stores with one more at its end
pub sets-append {ℓ} : {A : Type ℓ} (l vs : List A) (v : A) (i : ℕ) → sets l i (vs ++ v ∷ []) ≡ set (sets l i vs) (i + length vs) v
sets-append l [] v i = rw add-zero refl
sets-append l (x ∷ vs) v i =
    let e : suc i + length vs ≡ i + suc (length vs) = omega arith in
    sets-append (set l i x) vs v (suc i) ∙ ap (λ (j : ℕ). set (sets (set l i x) (suc i) vs) j v) e

-- stores past the end do nothing
pub sets-out : (l vs : List ℕ) (i : ℕ) → length l ≤ i → sets l i vs ≡ l
sets-out l [] i h = refl
sets-out l (v ∷ vs) i h = rw (set_out l i v h) (sets-out l vs (suc i) (omega arith))

pub sets-cut : (l vs : List ℕ) (i k : ℕ) → length l ≤ i + k → sets l i vs ≡ sets l i (take k vs)
sets-cut l vs i zero h = sets-out l vs i (omega arith)
sets-cut l [] i (suc k) h = refl
sets-cut l (v ∷ vs) i (suc k) h = sets-cut (set l i v) vs (suc i) k (omega (arith, length-set l i v))
