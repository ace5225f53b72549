-- Whether any byte has come is whether the number is not 0.
use Rattle.std.proofs.Common.{rules, ◌≡◌, ap, ◌∙◌}
use Rattle.trial_lines.specs.Begun.{has_begun as has_begun_rule}
use Rattle.trial_lines.proofs.Padded.{both-kept, any}
use Rattle.trial_lines.proofs.begun.Begun.has_begun.Goals as goal

pub returns : goal.returns
returns c =
    let b = c.self.inside in
    any b.bytes b.count (both-kept b c.self.invariant) ∙ ap has_begun_rule c.self.view_is
