-- A byte joined to a line that a buffer and a number hold.
use mathlib.Core.Path.{◌≡◌, refl, sym, ap, ◌∙◌}
use mathlib.Core.Bool.{true, false, not}
use mathlib.Core.List.{List, [], ◌∷◌, ◌++◌, append_assoc}
use Prim.Native.Nat.{ℕ, zero, suc, ◌+◌, ◌-◌, ◌<◌, ◌≤◌}
use native.Mathlib.Numerals.{add-one}
use native.Mathlib.Omega.{arith}
use borrow.Author.Tests.{lt-ltb, le-ltb, le-leb, lt-leb, ne_eqb}
use lib.Dec.{eqb}
use lib.ListN.{length, set, take}
use lib.Seq.{take-suc-set}
use Rattle.std.specs.Prelude.{replicate}
use Rattle.std.proofs.Math.Seq.{set-append_seam}
use Rattle.std.proofs.lemmas.List.{length-append, length-replicate}
use Rattle.rules.proofs.Splits.{less?}
use Rattle.trial_lines.specs.Begun.{line_most, so_far, too_long, longer, has_begun}
use Rattle.trial_lines.specs.Padded.{begun_of, bytes_of, count_of}
use Rattle.trial_lines.specs.declared.begun.Begun.TheInside.{Inside}

-- the buffer and the number are those of the line that they hold
abbrev pub Kept : (bytes : List ℕ) (count : ℕ) → Type 0
Kept bytes count = (bytes_of (begun_of bytes count) ≡ bytes) × (count_of (begun_of bytes count) ≡ count)

pub both-kept : (b : Inside) → record { bytes = bytes_of (begun_of b.bytes b.count); count = count_of (begun_of b.bytes b.count) } ≡ b → Kept b.bytes b.count
both-kept b e = (ap (λ (i : Inside). i.bytes) e, ap (λ (i : Inside). i.count) e)

pub in-line : (bytes : List ℕ) (count : ℕ) → count ≤ line_most → begun_of bytes count ≡ so_far (take count bytes)
unfolding begun_of
in-line bytes count h = rw (le-leb count line_most h)

pub past-line : (bytes : List ℕ) (count : ℕ) → line_most < count → begun_of bytes count ≡ too_long
unfolding begun_of
past-line bytes count h = rw (lt-leb count line_most h)

module _ (bytes : List ℕ) (count byte : ℕ) (kept : Kept bytes count) where
  abbrev line : List ℕ
  line = take count bytes

  abbrev room : ℕ
  room = line_most - length line

  module _ (h : count ≤ line_most) where
    counted : length line ≡ count
    unfolding count_of
    counted = sym (ap count_of (in-line bytes count h)) ∙ kept.1

    parts : line ++ replicate room 0 ≡ bytes
    unfolding bytes_of
    parts = sym (ap bytes_of (in-line bytes count h)) ∙ kept.0

    whole : length bytes ≡ line_most
    whole = let q = sym (ap length parts) in let a = length-append line (replicate room 0) in let r = length-replicate {A = ℕ} room 0 in omega (arith, q, a, r, counted)

  -- a byte that has room
  module _ (h : count < line_most) where
    joins : begun_of (set bytes count byte) (count + 1) ≡ so_far (line ++ byte ∷ [])
    joins = in-line (set bytes count byte) (count + 1) (omega arith)
        ∙ rw (add-one count, take-suc-set bytes count byte (omega (arith, whole (omega arith))))

    pub joined : begun_of (set bytes count byte) (count + 1) ≡ longer (begun_of bytes count) byte
    unfolding longer
    joined = joins ∙ rw (in-line bytes count (omega arith), lt-ltb (length line) line_most (omega (arith, counted (omega arith))))

    seam : (line ++ byte ∷ []) ++ replicate (line_most - length (line ++ byte ∷ [])) 0 ≡ set bytes count byte
    seam =
        let l = counted (omega arith) in
        let k : room ≡ suc (line_most - suc count) = omega (arith, l) in
        let m : line_most - length (line ++ byte ∷ []) ≡ line_most - suc count = let a = length-append line (byte ∷ []) in omega (arith, a, l) in
        let p : line ++ 0 ∷ replicate (line_most - suc count) 0 ≡ bytes = ap (λ (n : ℕ). line ++ replicate n 0) (sym k) ∙ parts (omega arith) in
        ap (λ (n : ℕ). (line ++ byte ∷ []) ++ replicate n 0) m
        ∙ append_assoc line (byte ∷ []) (replicate (line_most - suc count) 0)
        ∙ sym (set-append_seam line 0 (replicate (line_most - suc count) 0) byte)
        ∙ ap (λ (n : ℕ). set (line ++ 0 ∷ replicate (line_most - suc count) 0) n byte) l
        ∙ ap (λ (xs : List ℕ). set xs count byte) p

    pub joined-kept : Kept (set bytes count byte) (count + 1)
    unfolding bytes_of count_of
    joined-kept = (ap bytes_of joins ∙ seam, ap count_of joins ∙ (let a = length-append line (byte ∷ []) in omega (arith, a, counted (omega arith))))

  -- and one that has none
  pub full : line_most ≤ count → longer (begun_of bytes count) byte ≡ too_long
  unfolding longer
  full h =
      less? line_most count
      (λ g. rw (past-line bytes count g))
      (λ g. rw (in-line bytes count g, le-ltb (length line) line_most (omega (arith, counted g))))

some : (bytes : List ℕ) (k : ℕ) → length (take (suc k) bytes) ≡ suc k → has_begun (so_far (take (suc k) bytes)) ≡ true
unfolding has_begun
some [] k e = absurd (omega (arith, e))
some (b ∷ bytes) k e = refl

pub any : (bytes : List ℕ) (count : ℕ) → Kept bytes count → not (eqb count 0) ≡ has_begun (begun_of bytes count)
unfolding has_begun
any bytes zero kept = sym (ap has_begun (in-line bytes zero (omega arith)))
any bytes (suc k) kept = ap not (ne_eqb (suc k) 0 (λ e. omega (arith, e)))
    ∙ less? line_most (suc k)
    (λ g. sym (ap has_begun (past-line bytes (suc k) g)))
    (λ g. sym (ap has_begun (in-line bytes (suc k) g) ∙ some bytes k (counted bytes (suc k) 0 kept g)))
