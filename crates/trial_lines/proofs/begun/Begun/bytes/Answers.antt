-- The bytes that are there are those of the line, where it is not too long.
use Rattle.std.proofs.Common.{rules, ◌≡◌, sym, ◌∙◌, arith}
use Rattle.trial_lines.proofs.Padded.{in-line, past-line}
use Rattle.trial_lines.proofs.begun.Begun.bytes.Goals as goal

pub returns-then-self-le-MOST-clause-some : goal.returns-then-self-le-MOST-clause-some
returns-then-self-le-MOST-clause-some c = sym c.self.view_is ∙ in-line c.self.inside.bytes c.self.inside.count c.if-self-le-MOST.true

pub returns-else-self-le-MOST-clause-none : goal.returns-else-self-le-MOST-clause-none
returns-else-self-le-MOST-clause-none c = sym c.self.view_is ∙ past-line c.self.inside.bytes c.self.inside.count c.if-self-le-MOST.false
