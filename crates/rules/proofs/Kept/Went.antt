-- What one call of a list does to the promises, and the calls that name no block anew.
use Rattle.std.specs.Prelude.{if◌then◌else◌, Option, Some}
use mathlib.Core.Path.{◌≡◌, refl, sym, ap, ◌∙◌}
use mathlib.Core.Logic.{◌≢◌, ◌⊎◌, inl, inr}
use mathlib.Core.Bool.{true, false}
use Prim.Native.Nat.{ℕ}
use Rattle.rules.specs.Common.{is_at}
use Rattle.rules.specs.Records.{NONE, Blocks, Tables, active, flags_at, block_at}
use Rattle.rules.specs.Answers.{Answer, refused}
use Rattle.rules.specs.Calls.{State, Stepped, Call, promote_call, keeping, answering, refuse}
use Rattle.rules.specs.Promises.{sequence, parent, Occupied, Active, OnLine, start, down, Name, name, Accepted, slot_returned, name_given, Sound}
use Rattle.rules.specs.declared.Block.{Block}
use Rattle.rules.proofs.Splits.{split, true-not-false}
use Rattle.rules.proofs.Kept.Table.{none-empty, Shape, hash_of, is_occupied, is_active, occupied-ne, ne-occupied, occupied-real}
use Rattle.rules.proofs.Kept.Slots.{Voids}
use Rattle.rules.proofs.Kept.Steady.{Steady, steady-refl}
use Rattle.rules.proofs.Kept.Frame.{Good, All}
use Rattle.rules.proofs.Kept.Walked.{its_blocks, active_on, on-active}
use Rattle.rules.proofs.Kept.Border.{sound-good, good-sound, line-active}

pub record Went (call : Call) (s : State) (w : Stepped) : Type 0 where
  pub sound : Sound w.after
  pub stays : (i : ℕ) → Active s i → Active w.after i × (name w.after i ≡ name s i)
  pub new : (i : ℕ) → call ≡ promote_call i → Accepted w.answer → Active w.after i
  pub only : (i : ℕ) → Active w.after i → Active s i ⊎ ((call ≡ promote_call i) × Accepted w.answer)
  pub given : (i : ℕ) (was : Option Name) → Occupied w.after i → (Occupied s i → was ≡ Some (name s i))
      → (if is_at (slot_returned w.answer) i then name_given call else was) ≡ Some (name w.after i)

-- ---- active blocks are occupied

pub chain-occupied : (t : Blocks) (i : ℕ) → Voids t → is_active t i ≡ true → is_occupied t i ≡ true
unfolding active block_at
chain-occupied t i v a = split (is_occupied t i)
    (λ o. o)
    (λ e.
    let z : flags_at t.flags i ≡ 0 = ap (λ (x : Block). x.flags) (v i e) in
    true-not-false {b = is_active t i} a (rw z refl))

pub name-same : (s u : State) (i : ℕ) → sequence u i ≡ sequence s i → hash_of (its_blocks u) i ≡ hash_of (its_blocks s) i → name u i ≡ name s i
name-same s u i a b = rw (a, b) refl

-- ---- a call that keeps the record; slot x may be written anew

module _ (s : State) (line : (i : ℕ) → Active s i → Occupied s i × OnLine s i) (sh : Shape (its_blocks s))
    (w : Tables) (x : ℕ) (free : is_occupied (its_blocks s) x ≡ false) (y : Steady x (its_blocks s) w.blocks) where
  abbrev u : State
  u = keeping s w

  was-held : (i : ℕ) → Active s i → is_occupied (its_blocks s) i ≡ true
  was-held i a = ne-occupied (its_blocks s) i (line i a).0

  pub active-stays : (i : ℕ) → Active s i → Active u i × (name u i ≡ name s i)
  active-stays i a =
      let o = was-held i a in
      let p = y.keeps i o (active_on s i a) in
      let ne : i ≢ x = λ q. true-not-false {b = is_occupied (its_blocks s) x} (rw q at o) free in
      let n = y.same i ne p.0 in
      (on-active u i p.1, name-same s u i n.1 n.2)

  line_stays : (i : ℕ) → OnLine s i → OnLine u i
  line_stays i (start a) = start (active-stays s.active_head a).0
  line_stays i (down j l a) =
      let b = line-active s j l in
      let o = was-held (parent s j) a in
      let e : parent u j ≡ parent s j = (y.keeps j (was-held j b) (active_on s j b)).2 (occupied-real (its_blocks s) (parent s j) sh o) in
      rw (← e) (down j (line_stays j l) (rw e (active-stays (parent s j) a).0))

  pub active-was : Voids w.blocks → (i : ℕ) → Active u i → Active s i
  active-was v i a =
      let c = active_on u i a in
      on-active s i (y.back i (chain-occupied w.blocks i v c) c).1

  pub line_on : Voids w.blocks → (i : ℕ) → Active u i → Occupied u i × OnLine u i
  line_on v i a = (occupied-ne w.blocks i (chain-occupied w.blocks i v (active_on u i a)), line_stays i (line i (active-was v i a)).1)

  pub active-head-on : (s.active_head ≡ NONE) ⊎ Active s s.active_head → (u.active_head ≡ NONE) ⊎ Active u u.active_head
  active-head-on active_head = elim active_head [ inl e ↦ inl e | inr a ↦ inr (active-stays s.active_head a).0 ]

  -- another slot is_occupied what it held
  pub other_name : (i : ℕ) → i ≢ x → Occupied u i → Occupied s i × (name u i ≡ name s i)
  other_name i ne o = let p = y.same i ne (ne-occupied w.blocks i o) in (occupied-ne (its_blocks s) i p.0, name-same s u i p.1 p.2)

  -- where no slot was written anew, no two blocks share a name still
  pub names-on : ((i : ℕ) → Occupied u i → i ≢ x) → ((i j : ℕ) → Occupied s i → Occupied s j → name s i ≡ name s j → i ≡ j)
      → (i j : ℕ) → Occupied u i → Occupied u j → name u i ≡ name u j → i ≡ j
  names-on old names i j oi oj q =
      let a = other_name i (old i oi) oi in
      let b = other_name j (old j oj) oj in
      names i j a.0 b.0 (sym a.1 ∙ q ∙ b.1)

-- ---- a call that neither admits nor promotes

pub quiet : (call : Call) (s : State) (w : Tables) (answer : Answer) → Sound s → Good w.blocks w.heads s.active_head All → Steady NONE (its_blocks s) w.blocks
    → ((i : ℕ) → is_at (slot_returned answer) i ≡ false) → ((i : ℕ) → call ≡ promote_call i → Accepted answer → ⊥) → Went call s (answering (keeping s w) answer)
quiet call s w answer z g y mute never =
    let u : State = keeping s w in
    let sh = (sound-good s z).frame.counts.shape in
    let f = none-empty (its_blocks s) sh in
    let v = g.frame.voids in
    let old : (i : ℕ) → Occupied u i → i ≢ NONE = λ i o. occupied-real w.blocks i g.frame.counts.shape (ne-occupied w.blocks i o) in
    record {
      sound = good-sound u g (line_on s z.tree.line sh w NONE f y v) (active-head-on s z.tree.line sh w NONE f y z.tree.active_head) (names-on s z.tree.line sh w NONE f y old z.tree.names);
      stays = active-stays s z.tree.line sh w NONE f y;
      new = λ i e a. absurd (never i e a);
      only = λ i a. inl (active-was s z.tree.line sh w NONE f y v i a);
      given = λ i was o h. let p = other_name s z.tree.line sh w NONE f y i (old i o) o in rw (mute i) (h p.0 ∙ ap Some (sym p.1));
    }

pub turned-away : (call : Call) (s : State) (number : ℕ) → Sound s → Went call s (refuse s number)
turned-away call s number z = quiet call s s.tables (refused number) z (sound-good s z) (steady-refl NONE (its_blocks s)) (λ _. refl) (λ i _ a. a number refl)
