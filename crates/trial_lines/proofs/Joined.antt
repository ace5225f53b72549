-- Bytes taken one after the other: some and then others are all of them, so that it does not matter in which chunks they come.
use mathlib.Core.Path.{◌≡◌, refl, sym, ap, ◌∙◌}
use mathlib.Core.List.{List, [], ◌∷◌, ◌++◌, append_assoc, append-nil, flatten}
use Prim.Native.Nat.{ℕ, ◌+◌, ◌<◌, ◌≤◌, min}
use native.Mathlib.Numerals.{add-one}
use native.Mathlib.Omega.{arith}
use lib.ListN.{length, get_or, take}
use lib.Seq.{take-suc, take_all}
use Rattle.rules.proofs.Splits.{less?}
use Rattle.trial_lines.specs.Begun.{chunk_most}
use Rattle.trial_lines.specs.Fed.{Fed, Leaves, fed, fed_in_chunks}
use Rattle.trial_lines.specs.declared.page.Page.{Page}
use Rattle.trial_lines.proofs.Printing.{printed-none, printed_then}

-- after the last of a chunk
whole-taken : (bytes : List ℕ) (k i : ℕ) → k ≡ min (length bytes) chunk_most → length (take k bytes) ≤ i
    → take i (take k bytes) ≡ take chunk_most bytes
whole-taken bytes k i is all =
    less? (length bytes) chunk_most
    (λ l. take_all i (take k bytes) all ∙ take_all k bytes (omega arith) ∙ sym (take_all chunk_most bytes (omega arith)))
    (λ l. let q : k ≡ chunk_most = omega arith in take_all i (take k bytes) all ∙ ap (λ (x : ℕ). take x bytes) q)

module _ {S : Type 0} (one : S → ℕ → Fed S) where
  abbrev pub then_said : (s : S) (said : List ℕ) → Fed S
  then_said s said = record { after = s; said = said }

  pub fed_then : (s : S) (xs ys : List ℕ)
      → fed one s (xs ++ ys) ≡ then_said (fed one (fed one s xs).after ys).after ((fed one s xs).said ++ (fed one (fed one s xs).after ys).said)
  unfolding fed
  fed_then s [] ys = refl
  fed_then s (x ∷ xs) ys =
      let f = one s x in
      let g = fed one f.after xs in
      let k = fed one g.after ys in
      ap (λ (g : Fed S). then_said g.after (f.said ++ g.said)) (fed_then f.after xs ys)
      ∙ ap (then_said k.after) (sym (append_assoc f.said g.said k.said))

  fed-one : (s : S) (byte : ℕ) → fed one s (byte ∷ []) ≡ one s byte
  unfolding fed
  fed-one s byte = ap (then_said (one s byte).after) (append-nil (one s byte).said)

  -- a byte more
  pub fed-more : (s : S) (bytes : List ℕ) (i : ℕ) → i < length bytes
      → let f = fed one s (take i bytes) in
      let g = one f.after (get_or bytes i 0) in
      fed one s (take (i + 1) bytes) ≡ then_said g.after (f.said ++ g.said)
  fed-more s bytes i h =
      let f = fed one s (take i bytes) in
      rw (add-one, take-suc bytes i 0 h) (fed_then s (take i bytes) (get_or bytes i 0 ∷ []) ∙ rw (fed-one f.after (get_or bytes i 0)))

  -- a loop over bytes
  pub leaves-first : (s : S) (page : Page) → Leaves (fed one s []) page s page
  unfolding fed
  leaves-first s page = record { after = refl; said = sym (printed-none page) }

  pub leaves-more : (s t u : S) (page g h : Page) (bytes : List ℕ) (i : ℕ) → i < length bytes
      → Leaves (fed one s (take i bytes)) page t g
      → Leaves (one t (get_or bytes i 0)) g u h
      → Leaves (fed one s (take (i + 1) bytes)) page u h
  leaves-more s t u page g h bytes i l a b =
      let f = fed one s (take i bytes) in
      rw (fed-more s bytes i l) (record {
        after = b.after ∙ ap (λ (x : S). (one x (get_or bytes i 0)).after) a.after;
        said = rw (a.after, a.said) at b.said ∙ printed_then page f.said (one f.after (get_or bytes i 0)).said;
      })

  pub leaves-whole : (s t : S) (page g : Page) (bytes : List ℕ) (k i : ℕ) → k ≡ min (length bytes) chunk_most → length (take k bytes) ≤ i
      → Leaves (fed one s (take i (take k bytes))) page t g → Leaves (fed one s (take chunk_most bytes)) page t g
  leaves-whole s t page g bytes k i is all a =
      rw (whole-taken bytes k i is all) at a

  pub fed-in-chunks : (last : S → List ℕ) (s : S) (chunks : List (List ℕ))
      → fed_in_chunks one last s chunks ≡ (fed one s (flatten chunks)).said ++ last (fed one s (flatten chunks)).after
  unfolding fed fed_in_chunks flatten
  fed-in-chunks last s [] = refl
  fed-in-chunks last s (chunk ∷ chunks) =
      let f = fed one s chunk in
      let g = fed one f.after (flatten chunks) in
      ap (λ (x : List ℕ). f.said ++ x) (fed-in-chunks last f.after chunks)
      ∙ sym (append_assoc f.said g.said (last g.after))
      ∙ ap (λ (x : Fed S). x.said ++ last x.after) (sym (fed_then s chunk (flatten chunks)))
