-- Every refusal is one of the paper's numbers, of fresh, restart, timer and deadline 1 alone, of under 1 or 3, of screen 1 or 10, and a
-- refused call leaves the state as it stood; under and screen always do.
use Rattle.std.specs.Prelude.{if◌then◌else◌, Option, None, Some}
use mathlib.Core.Path.{◌≡◌, refl, ap}
use mathlib.Core.Logic.{◌≢◌, ◌⊎◌, inl, inr}
use mathlib.Core.Bool.{Bool, true, false, not, ◌&&◌}
use mathlib.Core.List.{List}
use Prim.Native.Nat.{ℕ, ◌<◌, ◌≤◌}
use native.Mathlib.Omega.{arith}
use borrow.Author.Tests.{eqb-true, eqb-false, lt-ltb}
use lib.Dec.{eqb, ltb}
use lib.ListN.{length}
use Rattle.rules.specs.Hashes.{hash_length, zero_hash, hash_at, same_hash}
use Rattle.rules.specs.Records.{NONE, occupied}
use Rattle.rules.specs.BlockTable.{next_free, mark_subtree}
use Rattle.rules.specs.Under.{hanging, highest}
use Rattle.rules.specs.Screen.{screen_of}
use Rattle.rules.specs.Removal.{removed}
use Rattle.rules.specs.Rebuild.{restarted}
use Rattle.rules.specs.Timer.{Ask, span_or, recovery, deadline}
use Rattle.rules.specs.Answers.{Answer, refused, done, slot, freed, hangs, shown, request, none_due, due_at, never_due, last_refusal}
use Rattle.rules.specs.Calls.{State, Stepped, Call, admit_call, promote_call, remove_call, timer_call, restart_call, step, refuse, answering, keeping, shaped, blocks_in, heads_in, fresh_state, fresh, known, takes_slot, admit, is_next, promoted_to, promote, holds_active, remove, under, screen, asked, timer, earliest_deadline, restart}
use Rattle.rules.proofs.Splits.{split, option?, and-true, true-not-false}

abbrev Numbered : ℕ → Type 0
Numbered n = (1 ≤ n) × (n ≤ last_refusal)

abbrev First : ℕ → Type 0
First n = n ≡ 1

abbrev OneOrThree : ℕ → Type 0
OneOrThree n = (n ≡ 1) ⊎ (n ≡ 3)

abbrev OneOrTen : ℕ → Type 0
OneOrTen n = (n ≡ 1) ⊎ (n ≡ 10)

-- if it refuses, then with a number that it may meet, and with the state kept
Refuses : (ℕ → Type 0) → State → Stepped → Type 0
Refuses may s w = (n : ℕ) → w.answer ≡ refused n → may n × (w.after ≡ s)

abbrev is_refusal : Answer → Bool
is_refusal (refused number) = true
is_refusal done = false
is_refusal (slot i) = false
is_refusal (freed blocks) = false
is_refusal (hangs blocks highest) = false
is_refusal (shown rows) = false
is_refusal (request head claims missing) = false
is_refusal none_due = false
is_refusal (due_at time) = false
is_refusal never_due = false

module _ (may : ℕ → Type 0) (s : State) where
  refuses : (k : ℕ) → may k → Refuses may s (refuse s k)
  unfolding Refuses
  refuses k m n e = let q : k ≡ n = cc in (rw (← q) m, refl)

  answers : (u : State) (a : Answer) → is_refusal a ≡ false → Refuses may s (answering u a)
  unfolding Refuses
  answers u a other n e = true-not-false {b = is_refusal a} (ap is_refusal e) other

  -- one refusal more before what else may come
  next : (b : Bool) (k : ℕ) (y : Stepped) → may k → Refuses may s y → Refuses may s (if b then refuse s k else y)
  next true k y m p = refuses k m
  next false k y m p = p

-- ---- admit

-- what admit has found before it writes
pub record Free (s : State) (sequence : ℕ) (hash : List ℕ) (i : ℕ) : Type 0 where
  pub len : length hash ≡ hash_length
  pub real : sequence ≢ NONE
  pub unknown : known s sequence hash ≡ false
  pub next : next_free s.tables.blocks.sequences ≡ Some i

module _ (s : State) (sequence : ℕ) (hash previous : List ℕ) (arrival : ℕ) where
  -- refused, or put into the lowest empty slot
  pub admit? {ℓ} : (P : Stepped → Type ℓ) → ((n : ℕ) → (1 ≤ n) × (n ≤ last_refusal) → P (refuse s n))
      → ((i : ℕ) → Free s sequence hash i → P (takes_slot s i sequence hash previous arrival))
      → P (admit s sequence hash previous arrival)
  unfolding admit
  admit? P f g = split (shaped s.tables)
      (λ e1. split (eqb (length hash) hash_length && eqb (length previous) hash_length)
      (λ e2. split (eqb sequence NONE)
      (λ e4. rw (e1, e2, e4) (f 4 (omega arith, omega arith)))
      (λ e4. split (same_hash hash zero_hash)
      (λ e5. rw (e1, e2, e4, e5) (f 5 (omega arith, omega arith)))
      (λ e5. split (known s sequence hash)
      (λ e6. rw (e1, e2, e4, e5, e6) (f 6 (omega arith, omega arith)))
      (λ e6. option? (next_free s.tables.blocks.sequences)
      (λ e7. rw (e1, e2, e4, e5, e6, e7) (f 7 (omega arith, omega arith)))
      (λ i e7. rw (e1, e2, e4, e5, e6, e7) (g i (record {
        len = eqb-true (length hash) hash_length (and-true (eqb (length hash) hash_length) (eqb (length previous) hash_length) e2).0;
        real = eqb-false sequence NONE e4;
        unknown = e6;
        next = e7;
      })))))))
      (λ e2. rw (e1, e2) (f 2 (omega arith, omega arith))))
      (λ e1. rw e1 (f 1 (omega arith, omega arith)))

  admits : Refuses Numbered s (admit s sequence hash previous arrival)
  admits = admit? (Refuses Numbered s) (refuses Numbered s) (λ i _. answers Numbered s (takes_slot s i sequence hash previous arrival).after _ refl)

module _ (s : State) where
  -- ---- promote and remove

  promotes : (i : ℕ) → Refuses Numbered s (promote s i)
  unfolding promote
  promotes i =
      let y = answering (promoted_to s i) done in
      let z = if not (is_next s.tables.blocks.parents s.active_head i) then refuse s 8 else y in
      let w = if not (occupied s.tables.blocks.sequences i) then refuse s 3 else z in
      next Numbered s (not (shaped s.tables)) 1 w (omega arith, omega arith)
      (next Numbered s (not (occupied s.tables.blocks.sequences i)) 3 z (omega arith, omega arith)
      (next Numbered s (not (is_next s.tables.blocks.parents s.active_head i)) 8 y (omega arith, omega arith) (answers Numbered s y.after done refl)))

  removes : (i : ℕ) → Refuses Numbered s (remove s i)
  unfolding remove
  removes i =
      let b = s.tables.blocks in
      let y = answering (keeping s (removed s.tables i)) (freed (length (mark_subtree b.parents b.sequences i))) in
      let z = if holds_active b i then refuse s 9 else y in
      let w = if not (occupied b.sequences i) then refuse s 3 else z in
      next Numbered s (not (shaped s.tables)) 1 w (omega arith, omega arith)
      (next Numbered s (not (occupied b.sequences i)) 3 z (omega arith, omega arith)
      (next Numbered s (holds_active b i) 9 y (omega arith, omega arith) (answers Numbered s y.after y.answer refl)))

  -- ---- under

  pub under-refused : (i n : ℕ) → (under s i).answer ≡ refused n → ((n ≡ 1) ⊎ (n ≡ 3)) × ((under s i).after ≡ s)
  unfolding under Refuses
  under-refused i =
      let b = s.tables.blocks in
      let blocks = hanging b.parents b.sequences i in
      let y = answering s (hangs (length blocks) (highest b.sequences blocks)) in
      let w = if not (occupied b.sequences i) then refuse s 3 else y in
      next OneOrThree s (not (shaped s.tables)) 1 w (inl refl)
      (next OneOrThree s (not (occupied b.sequences i)) 3 y (inr refl) (answers OneOrThree s s y.answer refl))

  pub under-keeps : (i : ℕ) → (under s i).after ≡ s
  unfolding under
  under-keeps i = split (shaped s.tables)
      (λ e. split (occupied s.tables.blocks.sequences i) (λ o. rw (e, o)) (λ o. rw (e, o)))
      (λ e. rw e)

  -- ---- screen

  pub screen-refused : (room n : ℕ) → (screen s room).answer ≡ refused n → ((n ≡ 1) ⊎ (n ≡ 10)) × ((screen s room).after ≡ s)
  unfolding screen Refuses
  screen-refused room =
      let b = s.tables.blocks in
      let h = s.tables.heads in
      let y = answering s (shown (screen_of b.hashes b.sequences h.tips h.tails h.connected)) in
      let w = if ltb room (heads_in s.tables) then refuse s 10 else y in
      next OneOrTen s (not (shaped s.tables)) 1 w (inl refl)
      (next OneOrTen s (ltb room (heads_in s.tables)) 10 y (inr refl) (answers OneOrTen s s y.answer refl))

  -- 1 comes first, however long the list is
  pub screen-misfit : (room : ℕ) → shaped s.tables ≡ false → (screen s room).answer ≡ refused 1
  unfolding screen
  screen-misfit room e = rw e

  -- 10, of tables of a right shape, exactly where the list has fewer than m places: otherwise `screen-any` has the records
  pub screen-short : (room : ℕ) → shaped s.tables ≡ true → room < heads_in s.tables → (screen s room).answer ≡ refused 10
  unfolding screen
  screen-short room e l = rw (e, lt-ltb room (heads_in s.tables) l)

  pub screen-keeps : (room : ℕ) → (screen s room).after ≡ s
  unfolding screen
  screen-keeps room = split (shaped s.tables)
      (λ e. split (ltb room (heads_in s.tables)) (λ o. rw (e, o)) (λ o. rw (e, o)))
      (λ e. rw e)

  -- ---- calls that meet refusal 1 only

  shape-first : (y : Stepped) → Refuses First s y → Refuses First s (if not (shaped s.tables) then refuse s 1 else y)
  shape-first y p = next First s (not (shaped s.tables)) 1 y refl p

  pub fresh-refused : (n : ℕ) → (fresh s).answer ≡ refused n → (n ≡ 1) × ((fresh s).after ≡ s)
  unfolding fresh Refuses
  fresh-refused = let u = fresh_state (blocks_in s.tables) (heads_in s.tables) in shape-first (answering u done) (answers First s u done refl)

  pub restart-refused : (now n : ℕ) → (restart s now).answer ≡ refused n → (n ≡ 1) × ((restart s now).after ≡ s)
  unfolding restart Refuses
  restart-refused now = let u = keeping s (restarted s.tables now s.active_head) in shape-first (answering u done) (answers First s u done refl)

  asks : (now : ℕ) (o : Option Ask) → Refuses First s (asked s now o)
  unfolding asked
  asks now None = answers First s s none_due refl
  asks now (Some ask) = answers First s (asked s now (Some ask)).after (request ask.head ask.claims (hash_at s.tables.heads.missing ask.head)) refl

  pub timer-refused : (now : ℕ) (span : Option ℕ) (n : ℕ) → (timer s now span).answer ≡ refused n → (n ≡ 1) × ((timer s now span).after ≡ s)
  unfolding timer Refuses
  timer-refused now span =
      let b = s.tables.blocks in
      let h = s.tables.heads in
      let o = recovery b.hashes b.sequences h.tips h.tails h.requested h.connected now (span_or span) in
      shape-first (asked s now o) (asks now o)

  pub deadline-refused : (span : Option ℕ) (n : ℕ) → (earliest_deadline s span).answer ≡ refused n → (n ≡ 1) × ((earliest_deadline s span).after ≡ s)
  unfolding earliest_deadline Refuses
  deadline-refused span =
      let h = s.tables.heads in
      option? (deadline h.tips h.requested h.connected (span_or span))
      (λ e. rw e (shape-first (answering s never_due) (answers First s s never_due refl)))
      (λ time e. rw e (shape-first (answering s (due_at time)) (answers First s s (due_at time) refl)))

  -- ---- every call of a list

  numbered : (w : Stepped) → Refuses First s w → Refuses Numbered s w
  unfolding Refuses
  numbered w p n e = let q = p n e in let f = q.0 in ((omega arith, omega arith), q.1)

  -- a call that is refused gets one of the paper's numbers and changes nothing
  pub refused-keeps : (call : Call) (n : ℕ) → (step s call).answer ≡ refused n → ((1 ≤ n) × (n ≤ last_refusal)) × ((step s call).after ≡ s)
  unfolding step Refuses
  refused-keeps (admit_call sequence hash previous arrival) = admits s sequence hash previous arrival
  refused-keeps (promote_call i) = promotes i
  refused-keeps (remove_call i) = removes i
  refused-keeps (timer_call now span) = numbered (timer s now span) (timer-refused now span)
  refused-keeps (restart_call now) = numbered (restart s now) (restart-refused now)
