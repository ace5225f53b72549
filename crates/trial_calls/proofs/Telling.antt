-- A line's call and its line together; which calls keep the record.
use mathlib.Core.Path.{◌≡◌, refl, sym, ap, ◌∙◌}
use mathlib.Core.Bool.{Bool, false, not, ◌&&◌}
use mathlib.Core.List.{List, []}
use Rattle.std.specs.Prelude.{Option, None, Some, is_some, Result, Ok, Err, is_ok}
use Rattle.std.specs.Result.{result_unwrap_or}
use Prim.Native.Nat.{ℕ}
use lib.Dec.{eqb}
use lib.ListN.{length, replicate}
use Rattle.rules.specs.Hashes.{hash_length, zero_hash, same_hash}
use Rattle.rules.specs.Records.{Tables, NONE, occupied}
use Rattle.rules.specs.BlockTable.{find, next_free}
use Rattle.rules.specs.Timer.{Ask, span_or, recovery}
use Rattle.rules.specs.Answers.{Answer, outcome_said, record_after}
use Rattle.rules.specs.Calls.{State, Stepped, state_of, shaped, heads_in, fresh, admit, promote, remove, holds_active, under, screen, asked, timer, restart, step, Does, Sets}
use Rattle.rules.specs.declared.BlockSlot.{BlockSlot}
use Rattle.rules.specs.declared.Refusal.{Refusal}
use Rattle.rules.specs.declared.Sequence.{Sequence}
use Rattle.rules.proofs.Splits.{split, option?}
use Rattle.rules.proofs.Refusals.{under-keeps, screen-keeps}
use Rattle.trial_lines.specs.Writing.{letter_line, number_line}
use Rattle.trial_lines.specs.Printing.{printed}
use Rattle.trial_lines.specs.Said.{said}
use Rattle.trial_lines.specs.declared.Line.{Line}
use Rattle.trial_lines.specs.declared.Line.TheVariants.{Fresh, Admit, Promote, Remove, Under, Screen, Timer, Restart}
use Rattle.trial_lines.specs.declared.page.Page.{Page}
use Rattle.trial_calls.specs.Calling.{called, done_said, line_said, is_refused, renews, Tells}

-- ---- the record is kept

pub admit-keeps : (s : State) (sequence : ℕ) (hash previous : List ℕ) (arrival : ℕ)
    → (admit s sequence hash previous arrival).after.active_head ≡ s.active_head
unfolding admit
admit-keeps s sequence hash previous arrival =
    let b = s.tables.blocks in
    split (shaped s.tables) (λ e. rw e
    (split (eqb (length hash) hash_length && eqb (length previous) hash_length) (λ f. rw f
    (split (eqb sequence NONE) (λ g. rw g) (λ g. rw g
    (split (same_hash hash zero_hash) (λ h. rw h) (λ h. rw h
    (split (is_some (find b.hashes b.sequences sequence hash)) (λ i. rw i) (λ i. rw i
    (option? (next_free b.sequences) (λ j. rw j) (λ k j. rw j)))))))))
    (λ f. rw f)))
    (λ e. rw e)

pub remove-keeps : (s : State) (root : ℕ) → (remove s root).after.active_head ≡ s.active_head
unfolding remove
remove-keeps s root =
    let b = s.tables.blocks in
    split (shaped s.tables) (λ e. rw e
    (split (occupied b.sequences root) (λ f. rw f
    (split (holds_active b root) (λ g. rw g) (λ g. rw g)))
    (λ f. rw f)))
    (λ e. rw e)

asked-keeps : (s : State) (now : ℕ) (o : Option Ask) → (asked s now o).after.active_head ≡ s.active_head
unfolding asked
asked-keeps s now None = refl
asked-keeps s now (Some ask) = refl

pub timer-keeps : (s : State) (now : ℕ) (span : Option ℕ) → (timer s now span).after.active_head ≡ s.active_head
unfolding timer
timer-keeps s now span =
    let b = s.tables.blocks in
    let h = s.tables.heads in
    split (shaped s.tables)
    (λ e. rw e (asked-keeps s now (recovery b.hashes b.sequences h.tips h.tails h.requested h.connected now (span_or span))))
    (λ e. rw e)

pub restart-keeps : (s : State) (now : ℕ) → (restart s now).after.active_head ≡ s.active_head
unfolding restart
restart-keeps s now = split (shaped s.tables) (λ e. rw e) (λ e. rw e)

-- ---- a call's answer told

-- d is what the line's call is
tells : {s : State} {line : Option Line} {page told : Page} {t : Tables} {a : ℕ} {renewed : Bool} {d : Stepped} {answer : Answer}
    → called s line ≡ d → Does answer t d → a ≡ d.after.active_head → renewed ≡ renews line answer
    → told ≡ printed page (said (done_said line) answer) → Tells s line page (state_of t a) renewed told
unfolding line_said
tells {s} {line} {page} {told} {t} {a} {renewed} {d} {answer} is does g h i =
    let k : answer ≡ (called s line).answer = does.answers ∙ ap (λ (x : Stepped). x.answer) (sym is) in
    let u : state_of t a ≡ d.after = rw (does.leaves, g) in
    record {
      left = u ∙ ap (λ (x : Stepped). x.after) (sym is);
      anew = h ∙ ap (renews line) k;
      text = i ∙ ap (λ (x : Answer). printed page (said (done_said line) x)) k;
    }

set-does : {answer : Answer} {held : ℕ} {u : Tables} {d : Stepped} → Sets answer held u d → Does answer u d
set-does does = record { answers = does.answers; leaves = does.leaves }

recorded_is : (answer : Result BlockSlot Refusal) (active left : BlockSlot)
    → left ≡ result_unwrap_or answer active → left.0 ≡ record_after answer active.0
recorded_is (Ok new) active left e = rw e
recorded_is (Err why) active left e = rw e

accepted : (answer : Result BlockSlot Refusal) → is_ok answer ≡ not (is_refused (outcome_said answer))
unfolding is_refused
accepted (Ok new) = refl
accepted (Err why) = refl

module _ {s : State} {u : Tables} {page told : Page} where
  module _ {answer : Answer} where
    pub admit-tells : {sequence : Sequence} {hash previous arrival : ℕ}
        → Does answer u (admit s sequence.0 (replicate hash_length hash) (replicate hash_length previous) arrival)
        → told ≡ printed page (said [] answer)
        → Tells s (Some (Admit sequence hash previous arrival)) page (state_of u s.active_head) false told
    unfolding called step done_said renews
    admit-tells {sequence} {hash} {previous} {arrival} does put =
        tells refl does (sym (admit-keeps s sequence.0 (replicate hash_length hash) (replicate hash_length previous) arrival)) refl put

    pub remove-tells : {slot : BlockSlot} → Does answer u (remove s slot.0) → told ≡ printed page (said [] answer)
        → Tells s (Some (Remove slot)) page (state_of u s.active_head) false told
    unfolding called step done_said renews
    remove-tells {slot} does put = tells refl does (sym (remove-keeps s slot.0)) refl put

    pub under-tells : {slot : BlockSlot} → Does answer u (under s slot.0) → told ≡ printed page (said [] answer)
        → Tells s (Some (Under slot)) page (state_of u s.active_head) false told
    unfolding called done_said renews
    under-tells {slot} does put = tells refl does (ap (λ (x : State). x.active_head) (sym (under-keeps s slot.0))) refl put

    pub screen-tells : Does answer u (screen s (heads_in s.tables)) → told ≡ printed page (said [] answer)
        → Tells s (Some Screen) page (state_of u s.active_head) false told
    unfolding called done_said renews
    screen-tells does put = tells refl does (ap (λ (x : State). x.active_head) (sym (screen-keeps s (heads_in s.tables)))) refl put

    pub timer-tells : {clock retry : ℕ} → Does answer u (timer s clock (Some retry)) → told ≡ printed page (said [] answer)
        → Tells s (Some (Timer clock retry)) page (state_of u s.active_head) false told
    unfolding called step done_said renews
    timer-tells {clock} {retry} does put = tells refl does (sym (timer-keeps s clock (Some retry))) refl put

    pub restart-tells : {clock : ℕ} → Does answer u (restart s clock) → told ≡ printed page (said (letter_line 82) answer)
        → Tells s (Some (Restart clock)) page (state_of u s.active_head) false told
    unfolding called step done_said renews
    restart-tells {clock} does put = tells refl does (sym (restart-keeps s clock)) refl put

  -- what the record holds then is what the call gives for it, or what it held
  module _ (answer : Result BlockSlot Refusal) (active : BlockSlot) {left : BlockSlot} where
    pub fresh-tells : {n m : ℕ} {renewed : Bool} → Sets (outcome_said answer) (record_after answer active.0) u (fresh s)
        → left ≡ result_unwrap_or answer active → renewed ≡ is_ok answer → told ≡ printed page (said [] (outcome_said answer))
        → Tells s (Some (Fresh n m)) page (state_of u left.0) renewed told
    unfolding called done_said renews
    fresh-tells does left-is done-is put =
        tells refl (set-does does) (recorded_is answer active left left-is ∙ does.records) (done-is ∙ accepted answer) put

    pub promote-tells : {slot : BlockSlot} → Sets (outcome_said answer) (record_after answer active.0) u (promote s slot.0)
        → left ≡ result_unwrap_or answer active → told ≡ printed page (said (number_line 80 slot.0) (outcome_said answer))
        → Tells s (Some (Promote slot)) page (state_of u left.0) false told
    unfolding called step done_said renews
    promote-tells does left-is put = tells refl (set-does does) (recorded_is answer active left left-is ∙ does.records) refl put

pub unread-tells : {s : State} {page told : Page}
    → told ≡ printed page (letter_line 63) → Tells s None page s false told
unfolding called done_said renews
unread-tells put = tells refl (record { answers = refl; leaves = refl }) refl refl put
