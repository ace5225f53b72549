-- Where the first space is found.
use mathlib.Core.Path.{◌≡◌, ◌∙◌}
use Rattle.std.proofs.Common.{rules, tests, eqb}
use Rattle.std.specs.Prelude.{position}
use Rattle.std.proofs.lemmas.Iterator.{YieldsList-from_slice}
use Rattle.std.proofs.lemmas.Iterator.Search.{position_from_yields_List}
use Rattle.trial_lines.proofs.Bytes.{field_found}
use Rattle.trial_lines.proofs.fields.field_length.Goals as goal

pub returns : goal.returns
returns c =
    let l = c.args.line.now in
    let r = c.position.result in
    let e : r ≡ position (λ b. eqb b 32) l =
    position_from_yields_List _ _ _ r c.position.ensures.ran (YieldsList-from_slice l cc) (λ x b q k. search (rules, tests)) in
    c.unwrap_or.ensures ∙ rw e (field_found l)
