-- What the call of a line does to the tables that it is given, and what the line prints (01, "One trial whole"): P is 80, R 82, ? 63.
use Rattle.std.specs.Prelude.{◌≡◌, Bool, true, false, not, List, [], ℕ, replicate, Some, Option, None}
use Rattle.rules.specs.Hashes.{hash_length}
use Rattle.rules.specs.Answers.{Answer, refused, done, slot, freed, hangs, shown, request, none_due, due_at, never_due}
use Rattle.rules.specs.Calls.{State, Stepped, answering, heads_in, fresh, under, screen, step, admit_call, promote_call, remove_call, timer_call, restart_call}
use Rattle.trial_lines.specs.Writing.{letter_line, number_line}
use Rattle.trial_lines.specs.Printing.{printed}
use Rattle.trial_lines.specs.Said.{said}
use Rattle.trial_lines.specs.declared.Line.{Line}
use Rattle.trial_lines.specs.declared.Line.TheVariants.{Fresh, Admit, Promote, Remove, Under, Screen, Timer, Restart}
use Rattle.trial_lines.specs.declared.page.Page.{Page}

-- a hash is a line's byte 32 times, a screen's list has a record for every head slot; an unread line calls nothing
unfoldable pub called : (s : State) (line : Option Line) → Stepped
called s (Some (Fresh n m)) = fresh s
called s (Some (Admit sequence hash previous arrival)) =
    step s (admit_call sequence.0 (replicate hash_length hash) (replicate hash_length previous) arrival)
called s (Some (Promote block)) = step s (promote_call block.0)
called s (Some (Remove block)) = step s (remove_call block.0)
called s (Some (Under block)) = under s block.0
called s (Some Screen) = screen s (heads_in s.tables)
called s (Some (Timer now retry)) = step s (timer_call now (Some retry))
called s (Some (Restart now)) = step s (restart_call now)
called s None = answering s done

-- what a line prints whose call is just done
unfoldable pub done_said : (line : Option Line) → List ℕ
done_said (Some (Fresh n m)) = []
done_said (Some (Admit sequence hash previous arrival)) = []
done_said (Some (Promote block)) = number_line 80 block.0
done_said (Some (Remove block)) = []
done_said (Some (Under block)) = []
done_said (Some Screen) = []
done_said (Some (Timer now retry)) = []
done_said (Some (Restart now)) = letter_line 82
done_said None = letter_line 63

unfoldable pub line_said : (line : Option Line) (answer : Answer) → List ℕ
line_said line answer = said (done_said line) answer

unfoldable pub is_refused : (answer : Answer) → Bool
is_refused (refused number) = true
is_refused done = false
is_refused (slot new) = false
is_refused (freed blocks) = false
is_refused (hangs blocks highest) = false
is_refused (shown rows) = false
is_refused (request head claimed missing) = false
is_refused none_due = false
is_refused (due_at time) = false
is_refused never_due = false

-- whether a line brings new tables: N, unless refused
unfoldable pub renews : (line : Option Line) (answer : Answer) → Bool
renews (Some (Fresh n m)) answer = not (is_refused answer)
renews (Some (Admit sequence hash previous arrival)) answer = false
renews (Some (Promote block)) answer = false
renews (Some (Remove block)) answer = false
renews (Some (Under block)) answer = false
renews (Some Screen) answer = false
renews (Some (Timer now retry)) answer = false
renews (Some (Restart now)) answer = false
renews None answer = false

-- a line's call on a state s: the state u that it leaves, whether it brings new tables, and its line on a page
pub record Tells (s : State) (line : Option Line) (page : Page) (u : State) (renewed : Bool) (told : Page) : Type 0 where
  pub left : u ≡ (called s line).after
  pub anew : renewed ≡ renews line (called s line).answer
  pub text : told ≡ printed page (line_said line (called s line).answer)
