-- What is printed piece by piece is printed at once.
use mathlib.Core.Path.{◌≡◌, sym, ap, ◌∙◌}
use mathlib.Core.List.{List, [], ◌∷◌, ◌++◌}
use Prim.Native.Nat.{ℕ, suc, ◌+◌, ◌<◌, ◌≤◌, min, max}
use native.Mathlib.Nat.{add-zero}
use native.Mathlib.Numerals.{add-one}
use native.Mathlib.Omega.{arith}
use lib.ListN.{length, get_or, set, take, drop, length-append}
use lib.Seq.{sets, sets-eq, length-sets, take-suc}
use Rattle.rules.proofs.Splits.{less?}
use Rattle.rules.proofs.Cells.{sets-out}
use Rattle.trial_lines.specs.Writing.{place}
use Rattle.trial_lines.specs.Printing.{page_with, printed}
use Rattle.trial_lines.specs.declared.page.Page.{Page}

-- ---- the bytes, and the place

pub sets_then : (l xs ys : List ℕ) (i : ℕ) → sets (sets l i xs) (i + length xs) ys ≡ sets l i (xs ++ ys)
sets_then l [] ys i = rw add-zero
sets_then l (x ∷ xs) ys i =
    let e : suc i + length xs ≡ i + suc (length xs) = omega arith in
    ap (λ (j : ℕ). sets (sets (set l i x) (suc i) xs) j ys) (sym e) ∙ sets_then (set l i x) xs ys (suc i)

sets-place : (l xs ys : List ℕ) (at : ℕ) → sets (sets l at xs) (place (length l) at (length xs)) ys ≡ sets l at (xs ++ ys)
unfolding place
sets-place l xs ys at =
    let k = length-sets l at xs in
    less? (at + length xs) (length l)
    (λ h. let e : max at (min (at + length xs) (length l)) ≡ at + length xs = omega arith in rw e (sets_then l xs ys at))
    (λ h. sets-out (sets l at xs) ys (max at (min (at + length xs) (length l))) (omega arith)
    ∙ sym (sets-out (sets l at xs) ys (at + length xs) (omega arith))
    ∙ sets_then l xs ys at)

pub place-then : (room at i j : ℕ) → place room (place room at i) j ≡ place room at (i + j)
unfolding place
place-then room at i j = omega arith

-- ---- the page

pub printed-none : (page : Page) → printed page [] ≡ page
unfolding printed place
printed-none page = ap (page_with page page.bytes.now) (omega arith)

pub printed_then : (page : Page) (xs ys : List ℕ) → printed (printed page xs) ys ≡ printed page (xs ++ ys)
unfolding printed
printed_then page xs ys =
    let l = page.bytes.now in
    let at = page.at in
    rw (length-sets l at xs, sets-place l xs ys at, place-then (length l) at (length xs) (length ys), length-append xs ys)

pub printed-more : (page : Page) (text : List ℕ) (i : ℕ) → i < length text
    → printed (printed page (take i text)) (get_or text i 0 ∷ []) ≡ printed page (take (i + 1) text)
printed-more page text i h = rw (add-one, take-suc text i 0 h) (printed_then page (take i text) (get_or text i 0 ∷ []))

pub ruleset printing = (printed-none, printed-more, printed_then)

-- at the start of a buffer that has room for all of it
pub printed-front : (page : Page) (text : List ℕ) → page.at ≡ 0 → length text ≤ length page.bytes.now
    → printed page text ≡ page_with page (text ++ drop (length text) page.bytes.now) (length text)
unfolding printed place
printed-front page text e h =
    let l = page.bytes.now in
    let z : 0 + length text ≡ length text = omega arith in
    let b : sets l 0 text ≡ text ++ drop (length text) l = sets-eq text l 0 (omega arith) ∙ rw z in
    let r : max 0 (min (0 + length text) (length l)) ≡ length text = omega arith in
    rw (e, b, r)
