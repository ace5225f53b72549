-- How many records a line's answer shows: a screen's no more than a table may have heads, any other none.
use mathlib.Core.List.{List}
use Rattle.std.specs.Prelude.{Option, None, Some}
use Prim.Native.Nat.{ℕ, ◌≤◌}
use native.Mathlib.Omega.{arith}
use lib.Dec.{ltb}
use lib.ListN.{length, length-map, replicate}
use Rattle.rules.specs.Hashes.{hash_length}
use Rattle.rules.specs.Records.{slots_of, used, occupied}
use Rattle.rules.specs.Screen.{stands_before, standing, row_of, screen_of}
use Rattle.rules.specs.Timer.{Ask, span_or, recovery}
use Rattle.rules.specs.Answers.{Answer, refused, done, slot, freed, hangs, shown, request, none_due, due_at, never_due}
use Rattle.rules.specs.Calls.{State, Stepped, max_heads, heads_in, shaped, fresh, admit, is_next, promote, holds_active, remove, under, screen, asked, timer, restart, step}
use Rattle.rules.proofs.Splits.{split}
use Rattle.rules.proofs.Placed.{below-few}
use Rattle.rules.proofs.Refusals.{admit?}
use Rattle.rules.proofs.Kept.Shaped.{shaped-shape}
use Rattle.trial_lines.specs.declared.Line.{Line}
use Rattle.trial_lines.specs.declared.Line.TheVariants.{Fresh, Admit, Promote, Remove, Under, Screen, Timer, Restart}
use Rattle.trial_calls.specs.Calling.{called}

abbrev pub rows_shown : Answer → ℕ
rows_shown (shown rows) = length rows
rows_shown (refused number) = 0
rows_shown done = 0
rows_shown (slot new) = 0
rows_shown (freed blocks) = 0
rows_shown (hangs blocks highest) = 0
rows_shown (request head claimed missing) = 0
rows_shown none_due = 0
rows_shown (due_at time) = 0
rows_shown never_due = 0

abbrev Few : Stepped → Type 0
Few d = rows_shown d.answer ≤ max_heads

-- ---- the screen

screen-rows : (hashes sequences tips tails connected : List ℕ) → length (screen_of hashes sequences tips tails connected) ≤ length tips
unfolding screen_of standing slots_of
screen-rows hashes sequences tips tails connected =
    omega (
      arith,
      length-map (standing hashes sequences tips) (row_of sequences tips tails connected),
      below-few (used tips) (stands_before hashes sequences tips) (slots_of tips),
    )

screen-few : (s : State) (room : ℕ) → Few (screen s room)
unfolding screen
screen-few s room =
    let b = s.tables.blocks in
    let h = s.tables.heads in
    split (shaped s.tables)
    (λ e. rw e (split (ltb room (heads_in s.tables))
    (λ f. rw f (omega arith))
    (λ f. rw f (omega (arith, (shaped-shape s.tables e).1.few, screen-rows b.hashes b.sequences h.tips h.tails h.connected)))))
    (λ e. rw e (omega arith))

-- ---- the other calls

fresh-few : (s : State) → Few (fresh s)
unfolding fresh
fresh-few s = split (shaped s.tables) (λ e. rw e (omega arith)) (λ e. rw e (omega arith))

admit-few : (s : State) (sequence : ℕ) (hash previous : List ℕ) (arrival : ℕ) → Few (admit s sequence hash previous arrival)
admit-few s sequence hash previous arrival = admit? s sequence hash previous arrival Few (λ n _. omega arith) (λ i _. omega arith)

promote-few : (s : State) (i : ℕ) → Few (promote s i)
unfolding promote
promote-few s i =
    split (shaped s.tables) (λ e. rw e
    (split (occupied s.tables.blocks.sequences i) (λ f. rw f
    (split (is_next s.tables.blocks.parents s.active_head i) (λ g. rw g (omega arith)) (λ g. rw g (omega arith))))
    (λ f. rw f (omega arith))))
    (λ e. rw e (omega arith))

remove-few : (s : State) (root : ℕ) → Few (remove s root)
unfolding remove
remove-few s root =
    split (shaped s.tables) (λ e. rw e
    (split (occupied s.tables.blocks.sequences root) (λ f. rw f
    (split (holds_active s.tables.blocks root) (λ g. rw g (omega arith)) (λ g. rw g (omega arith))))
    (λ f. rw f (omega arith))))
    (λ e. rw e (omega arith))

under-few : (s : State) (root : ℕ) → Few (under s root)
unfolding under
under-few s root =
    split (shaped s.tables) (λ e. rw e
    (split (occupied s.tables.blocks.sequences root) (λ f. rw f (omega arith)) (λ f. rw f (omega arith))))
    (λ e. rw e (omega arith))

asked-few : (s : State) (now : ℕ) (ask : Option Ask) → Few (asked s now ask)
unfolding asked
asked-few s now None = omega arith
asked-few s now (Some ask) = omega arith

timer-few : (s : State) (now : ℕ) (span : Option ℕ) → Few (timer s now span)
unfolding timer
timer-few s now span =
    let b = s.tables.blocks in
    let h = s.tables.heads in
    split (shaped s.tables)
    (λ e. rw e (asked-few s now (recovery b.hashes b.sequences h.tips h.tails h.requested h.connected now (span_or span))))
    (λ e. rw e (omega arith))

restart-few : (s : State) (now : ℕ) → Few (restart s now)
unfolding restart
restart-few s now = split (shaped s.tables) (λ e. rw e (omega arith)) (λ e. rw e (omega arith))

-- ---- every line

pub called-few : (s : State) (line : Option Line) → rows_shown (called s line).answer ≤ max_heads
unfolding called step
called-few s (Some (Fresh n m)) = fresh-few s
called-few s (Some (Admit sequence hash previous arrival)) =
    admit-few s sequence.0 (replicate hash_length hash) (replicate hash_length previous) arrival
called-few s (Some (Promote block)) = promote-few s block.0
called-few s (Some (Remove block)) = remove-few s block.0
called-few s (Some (Under block)) = under-few s block.0
called-few s (Some Screen) = screen-few s (heads_in s.tables)
called-few s (Some (Timer now retry)) = timer-few s now (Some retry)
called-few s (Some (Restart now)) = restart-few s now
called-few s None = omega arith
