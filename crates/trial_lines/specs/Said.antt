-- What an answer prints (01, "One trial whole"): E and a refusal, or the call's letter and what it returned: A is 65, D 68, E 69. P
-- prints the slot of its line and R and N none, so what a call that is just done prints is given.
use Rattle.std.specs.Prelude.{List, [], ℕ, get_or}
use Rattle.rules.specs.Answers.{Answer, refused, done, slot, freed, hangs, shown, request, none_due, due_at, never_due}
use Rattle.trial_lines.specs.Writing.{number_line, hanging_line, rows_lines, request_line, none_due_line}

-- a hash is one byte 32 times, so its first says all; no line asks for a deadline
abbrev pub said : (when_done : List ℕ) (answer : Answer) → List ℕ
said when_done (refused number) = number_line 69 number
said when_done done = when_done
said when_done (slot new) = number_line 65 new
said when_done (freed blocks) = number_line 68 blocks
said when_done (hangs blocks highest) = hanging_line blocks highest
said when_done (shown rows) = rows_lines rows
said when_done (request head claimed missing) = request_line head claimed (get_or missing 0 0)
said when_done none_due = none_due_line
said when_done (due_at time) = []
said when_done never_due = []
