-- A byte ends the line or joins it.
use Rattle.std.proofs.Common.{◌≡◌, ◌≢◌, [], rules}
use Rattle.trial_lines.specs.Begun.{so_far, longer}
use Rattle.trial_session.proofs.Bytes.{byte-ends, byte-joins}
use Rattle.trial_session.proofs.lines.SessionTakesBytes.take_byte.Goals as goal

pub returns-in-Some : goal.returns-in-Some
returns-in-Some c =
    let b : c.args.byte ≡ 10 = search rules in
    let l : c.in-Some.line ≡ c.args.self.now.begun = search rules in
    let n : c.take.new.self ≡ so_far [] = search rules in
    byte-ends _ _ _ _ _ b (rw (c.line.ensures, l, n) at c.do_line.ensures)

pub returns-in_default : goal.returns-in_default
returns-in_default c =
    let b : c.args.byte ≢ 10 = search rules in
    let n : c.take.new.self ≡ longer c.args.self.now.begun c.args.byte = search rules in
    rw n (byte-joins _ _ _ b)
