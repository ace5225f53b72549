-- The records of the keys before `i` are filled in.
use Rattle.std.proofs.Common.{◌≡◌}
use Rattle.std.proofs.lemmas.List.Edits.{sets}
use Rattle.screen_call.specs.Keys.{rows_in}
use Rattle.station.proofs.screen.fill_rows.Given as goal

abbrev pub invariant-loop-i : goal.invariant-loop-i
invariant-loop-i l = l.rows ≡ sets l.fn.rows 0 (rows_in l.sequences l.tips l.tails l.connected l.keys l.i)
