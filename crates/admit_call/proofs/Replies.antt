-- What admit does, told from its answer.
use Rattle.std.specs.Prelude.{is_some}
use mathlib.Core.Path.{◌≡◌, sym, ap, ◌∙◌}
use mathlib.Core.Bool.{◌&&◌}
use mathlib.Core.List.{List}
use Prim.Native.Nat.{ℕ}
use native.Mathlib.Omega.{arith}
use borrow.Author.Tests.{eqb-true}
use lib.Dec.{eqb}
use lib.ListN.{length}
use Rattle.rules.specs.Hashes.{hash_length, zero_hash, hash_at, same_hash}
use Rattle.rules.specs.Records.{NONE, Blocks, Tables}
use Rattle.rules.specs.BlockTable.{find, next_free}
use Rattle.rules.specs.Answers.{refused, slot}
use Rattle.rules.specs.Calls.{State, Stepped, keeping, answering, refuse, shaped, admit_at, admit, Does}
use Rattle.rules.proofs.Splits.{split, option?, and-true}
use Rattle.admit_reply.proofs.OwnHash.{own-hash}

slot-not-refused {ℓ} : {A : Type ℓ} (i k : ℕ) → slot i ≡ refused k → A
slot-not-refused i k e = let z : ◌≡◌ {A = ℕ} 0 1 = cc in absurd (omega arith)

module _ (s : State) (sequence : ℕ) (hash previous : List ℕ) (arrival : ℕ) where
  abbrev step : Stepped
  step = admit s sequence hash previous arrival

  abbrev b : Blocks
  b = s.tables.blocks

  -- refused, or put in the lowest empty slot
  admit? {ℓ} : {A : Type ℓ} → ((k : ℕ) → step ≡ refuse s k → A)
      → ((i : ℕ) → length hash ≡ hash_length → length previous ≡ hash_length → step ≡ answering (keeping s (admit_at s i sequence hash previous arrival)) (slot i) → A)
      → A
  unfolding admit
  admit? f g = split (shaped s.tables)
      (λ e1. split (eqb (length hash) hash_length && eqb (length previous) hash_length)
      (λ e2. split (eqb sequence NONE)
      (λ e3. f 4 (rw (e1, e2, e3)))
      (λ e3. split (same_hash hash zero_hash)
      (λ e4. f 5 (rw (e1, e2, e3, e4)))
      (λ e4. split (is_some (find b.hashes b.sequences sequence hash))
      (λ e5. f 6 (rw (e1, e2, e3, e4, e5)))
      (λ e5. option? (next_free b.sequences)
      (λ e6. f 7 (rw (e1, e2, e3, e4, e5, e6, admit)))
      (λ i e6.
      let l = and-true (eqb (length hash) hash_length) (eqb (length previous) hash_length) e2 in
      g i (eqb-true (length hash) hash_length l.0) (eqb-true (length previous) hash_length l.1) (rw (e1, e2, e3, e4, e5, e6, admit)))))))
      (λ e2. f 2 (rw (e1, e2))))
      (λ e1. f 1 (rw e1))

  pub admit-refused : (k : ℕ) → refused k ≡ step.answer → Does (refused k) s.tables step
  admit-refused k h = admit?
      (λ j e. record { answers = h; leaves = rw e })
      (λ i l m e. slot-not-refused i k (sym (ap (λ (t : Stepped). t.answer) e) ∙ sym h))

  admit-slot : (i : ℕ) → step.answer ≡ slot i
      → (length hash ≡ hash_length) × ((length previous ≡ hash_length) × (step.after.tables ≡ admit_at s i sequence hash previous arrival))
  admit-slot i h = admit?
      (λ k e. slot-not-refused i k (sym h ∙ ap (λ (t : Stepped). t.answer) e))
      (λ j l m e.
      let p : slot j ≡ slot i = sym (ap (λ (t : Stepped). t.answer) e) ∙ h in
      let r : j ≡ i = cc in
      (l, (m, rw (e, r))))

  -- as the code does it, with the hashes read from their buffers
  pub admit-places : (i : ℕ) (own before : List ℕ) (left : Tables) → slot i ≡ step.answer → own ≡ hash_at hash 0 → before ≡ hash_at previous 0
      → left ≡ admit_at s i sequence own before arrival → Does (slot i) left step
  admit-places i own before left h o p t =
      let d = admit-slot i (sym h) in
      record { answers = h; leaves = t ∙ rw (d.1.1, o, p, own-hash hash d.0, own-hash previous d.1.0) }
