-- A session begins with no tables, and before an accepted N each call prints E 1 and changes nothing (01, "One trial whole").
use Rattle.std.specs.Prelude.{Option, Some, None}
use mathlib.Core.Path.{◌≡◌, refl}
use mathlib.Core.Bool.{Bool, true, false}
use mathlib.Core.List.{[]}
use Rattle.rules.specs.Records.{Tables, empty_blocks, empty_heads, blocks_fit, heads_fit}
use Rattle.rules.specs.Calls.{shaped, fresh_state, admit, promote, remove, under, screen, timer, restart, step}
use Rattle.rules.proofs.Splits.{true-not-false}
use Rattle.trial_lines.specs.Begun.{Begun, so_far}
use Rattle.trial_lines.specs.Writing.{number_line}
use Rattle.trial_lines.specs.declared.Line.{Line}
use Rattle.trial_lines.specs.declared.Line.TheVariants.{Fresh, Admit, Promote, Remove, Under, Screen, Timer, Restart}
use Rattle.trial_calls.specs.Calling.{called, done_said, line_said}
use Rattle.trial_fronts.specs.Fronts.{front}
use Rattle.trial_session.specs.Session.{line_done, line_fed, start}
use Rattle.trial_session.specs.Held.{held_with, new_trial, state_in, session_in}

-- whatever stands in the arrays
pub starts : (t : Tables) (begun : Begun) → begun ≡ so_far [] → session_in (held_with t new_trial begun) ≡ start
unfolding session_in state_in front start fresh_state empty_blocks empty_heads
starts t begun e = rw e

abbrev pub asks_call : Option Line → Bool
asks_call (Some (Fresh n m)) = false
asks_call (Some (Admit sequence hash previous arrival)) = true
asks_call (Some (Promote slot)) = true
asks_call (Some (Remove slot)) = true
asks_call (Some (Under slot)) = true
asks_call (Some Screen) = true
asks_call (Some (Timer now retry)) = true
asks_call (Some (Restart now)) = true
asks_call None = false

pub before-first : (line : Option Line) → asks_call line ≡ true
    → line_fed start.state line ≡ record { after = start; said = number_line 69 1 }
unfolding line_fed line_done line_said called done_said start step admit promote remove under screen timer restart shaped blocks_fit heads_fit fresh_state empty_blocks empty_heads
before-first (Some (Fresh n m)) e = true-not-false e refl
before-first (Some (Admit sequence hash previous arrival)) e = refl
before-first (Some (Promote slot)) e = refl
before-first (Some (Remove slot)) e = refl
before-first (Some (Under slot)) e = refl
before-first (Some Screen) e = refl
before-first (Some (Timer now retry)) e = refl
before-first (Some (Restart now)) e = refl
before-first None e = true-not-false e refl
