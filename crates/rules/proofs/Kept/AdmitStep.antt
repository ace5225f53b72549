-- Admission as a call of a list.
use mathlib.Core.Path.{◌≡◌, refl, sym, ap, ◌∙◌}
use mathlib.Core.Logic.{◌≢◌, ◌⊎◌, inl, inr}
use mathlib.Core.Bool.{true, not, ◌&&◌}
use mathlib.Core.List.{List}
use Rattle.std.specs.Prelude.{None, Some}
use Prim.Native.Nat.{ℕ, suc}
use native.Mathlib.Omega.{arith}
use lib.Dec.{eqb}
use borrow.Author.Tests.{eqb-true, eqb-false, eq-eqb, ne_eqb, not-true}
use Rattle.rules.specs.Common.{is_at}
use Rattle.rules.specs.Hashes.{same_hash}
use Rattle.rules.specs.Records.{NONE, Blocks, Tables, slots_of}
use Rattle.rules.specs.BlockTable.{is_block, find, next_free, find_parent}
use Rattle.rules.specs.Answers.{slot}
use Rattle.rules.specs.Calls.{State, Call, admit_call, keeping, slot_or_none, admit_at, takes_slot, admit}
use Rattle.rules.specs.Promises.{Occupied, Name, name, slot_returned, Sound}
use Rattle.rules.proofs.Splits.{split, same?, option?, not_some, and-true, true-not-false, some-not-none}
use Rattle.rules.proofs.Search.{lowest-holds, lowest-misses}
use Rattle.rules.proofs.Hashes.{same_refl}
use Rattle.rules.proofs.Refusals.{Free, admit?}
use Rattle.rules.proofs.Kept.Table.{seq_of, hash_of, is_occupied, Shape, occupied-lt, ne-occupied, kids-slots}
use Rattle.rules.proofs.Kept.Frame.{Good, All}
use Rattle.rules.proofs.Kept.Insert.{Fits}
use Rattle.rules.proofs.Kept.Admit.{Admitted, admit-done}
use Rattle.rules.proofs.Kept.Walked.{its_blocks, its_heads}
use Rattle.rules.proofs.Kept.Border.{sound-good, good-sound}
use Rattle.rules.proofs.Kept.Went.{other_name, Went, active-stays, active-was, line_on, active-head-on, turned-away}

-- ---- what was found

module _ (t : Blocks) (q : ℕ) (hash : List ℕ) (i : ℕ) where
  block-is : is_block t.hashes t.sequences q hash i ≡ true → (is_occupied t i ≡ true) × (seq_of t i ≡ q)
  unfolding is_block
  block-is e =
      let c = and-true (is_occupied t i && eqb (seq_of t i) q) (same_hash (hash_of t i) hash) e in
      let d = and-true (is_occupied t i) (eqb (seq_of t i) q) c.0 in
      (d.0, eqb-true (seq_of t i) q d.1)

  is_block_lem : is_occupied t i ≡ true → seq_of t i ≡ q → hash_of t i ≡ hash → is_block t.hashes t.sequences q hash i ≡ true
  unfolding is_block
  is_block_lem o e h = rw (o, eq-eqb (seq_of t i) q e, h, same_refl hash) refl

-- a parent stands one lower
pub parent_is : (t : Blocks) (q : ℕ) (previous : List ℕ) (i : ℕ) → find_parent t.hashes t.sequences q previous ≡ Some i → (is_occupied t i ≡ true) × (suc (seq_of t i) ≡ q)
unfolding find_parent find
parent_is t q previous i e = same? q 0
    (λ z. some-not-none {o = None} {i = i} (rw (eq-eqb q 0 z) at e) refl)
    (λ nz.
    let b = lowest-holds _ _ i (rw (ne_eqb q 0 nz) at e) in
    let c = block-is t _ previous i b.1 in
    let r = c.1 in
    (c.0, omega arith))

parent-fits : (t : Blocks) (q : ℕ) (previous : List ℕ) → let p = slot_or_none (find_parent t.hashes t.sequences q previous) in (p ≡ NONE) ⊎ ((is_occupied t p ≡ true) × (suc (seq_of t p) ≡ q))
parent-fits t q previous = option? (find_parent t.hashes t.sequences q previous)
    (λ e. rw e (inl refl))
    (λ i e. rw e (inr (parent_is t q previous i e)))

-- ---- the call is accepted

module _ (s : State) (q : ℕ) (hash previous : List ℕ) (arrival x : ℕ) (z : Sound s) (k : Free s q hash x) where
  abbrev t : Blocks
  t = its_blocks s

  g : Good t (its_heads s) s.active_head All
  g = sound-good s z

  sh : Shape t
  sh = g.frame.counts.shape

  pub fits : Fits t x q hash (slot_or_none (find_parent t.hashes t.sequences q previous))
  unfolding next_free
  fits =
      let b = lowest-holds (λ i. not (is_occupied t i)) (slots_of t.sequences) x k.next in
      record {
        inside = rw (kids-slots t sh) at b.0;
        free = not-true (is_occupied t x) b.1;
        seq_ok = k.real;
        len = k.len;
        parent_ok = parent-fits t q previous;
      }

  abbrev w : Tables
  w = admit_at s x q hash previous arrival

  d : Admitted t s.active_head x q hash w
  unfolding admit_at
  d = admit-done t (its_heads s) s.active_head x q hash (find_parent t.hashes t.sequences q previous) previous arrival g fits (λ i e. (parent_is t q previous i e).0)

  abbrev u : State
  u = keeping s w

  -- another slot is_occupied what it held
  other : (i : ℕ) → i ≢ x → Occupied u i → Occupied s i × (name u i ≡ name s i)
  other = other_name s z.tree.line sh w x fits.free d.steady

  given-name : Name
  given-name = record { sequence = q; hash = hash }

  own : name u x ≡ given-name
  unfolding given-name
  own = rw (d.sequence, d.hashed) refl

  -- no other block has this name
  foreign : (j : ℕ) → j ≢ x → Occupied u j → name u j ≡ given-name → ⊥
  unfolding find given-name
  foreign j ne o e =
      let p = other j ne o in
      let n : name s j ≡ given-name = sym p.1 ∙ e in
      let oj = ne-occupied t j p.0 in
      true-not-false {b = is_block t.hashes t.sequences q hash j}
      (is_block_lem t q hash j oj (ap (λ (y : Name). y.sequence) n) (ap (λ (y : Name). y.hash) n))
      (lowest-misses (is_block t.hashes t.sequences q hash) (slots_of t.sequences) j (not_some (find t.hashes t.sequences q hash) k.unknown) (rw (kids-slots t sh) (occupied-lt t j oj)))

  names : (i j : ℕ) → Occupied u i → Occupied u j → name u i ≡ name u j → i ≡ j
  names i j oi oj e = same? i x
      (λ a. same? j x
      (λ b. a ∙ sym b)
      (λ b. absurd (foreign j b oj (sym e ∙ (rw a own)))))
      (λ a. same? j x
      (λ b. absurd (foreign i a oi (e ∙ (rw b own))))
      (λ b.
      let p = other i a oi in
      let r = other j b oj in
      z.tree.names i j p.0 r.0 (sym p.1 ∙ e ∙ r.1)))

  admitted-went : Went (admit_call q hash previous arrival) s (takes_slot s x q hash previous arrival)
  unfolding given-name
  admitted-went =
      let free = fits.free in
      let y = d.steady in
      let v = d.good.frame.voids in
      record {
        sound = good-sound u d.good (line_on s z.tree.line sh w x free y v) (active-head-on s z.tree.line sh w x free y z.tree.active_head) names;
        stays = active-stays s z.tree.line sh w x free y;
        new = λ i e _. let c : ◌≡◌ {A = ℕ} 0 1 = cc in absurd (omega arith);
        only = λ i a. inl (active-was s z.tree.line sh w x free y v i a);
        given = λ i was o h. split (is_at (slot_returned (takes_slot s x q hash previous arrival).answer) i)
            (λ e. rw e (ap Some (sym own ∙ ap (name u) (eqb-true x i e))))
            (λ e. let p = other i (λ c. eqb-false x i e (sym c)) o in rw e (h p.0 ∙ ap Some (sym p.1)));
      }

module _ (s : State) (q : ℕ) (hash previous : List ℕ) (arrival : ℕ) where
  abbrev c : Call
  c = admit_call q hash previous arrival

  pub went-admit : Sound s → Went c s (admit s q hash previous arrival)
  went-admit z = admit? s q hash previous arrival (Went c s) (λ n _. turned-away c s n z) (λ x k. admitted-went s q hash previous arrival x z k)

  -- what it found and did is told from its answer
  pub admit-slot : (x : ℕ) → (admit s q hash previous arrival).answer ≡ slot x → Free s q hash x × (admit s q hash previous arrival ≡ takes_slot s x q hash previous arrival)
  admit-slot x = admit? s q hash previous arrival (λ w. w.answer ≡ slot x → Free s q hash x × (w ≡ takes_slot s x q hash previous arrival))
      (λ n _ e. let o : ◌≡◌ {A = ℕ} 0 1 = cc in absurd (omega arith))
      (λ y k e. let o : y ≡ x = cc in (rw (← o) k, rw o refl))
