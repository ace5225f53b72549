-- Each test in turn, then the count.
use mathlib.Core.Path.{sym}
use Rattle.rules.specs.Records.{viewed}
use Rattle.under_call.proofs.Replies.{misshapen, few-slots, no_block, counted}
use Rattle.under_call.proofs.under.Goals as goal

pub returns-then-not-is_shaped : goal.returns-then-not-is_shaped
returns-then-not-is_shaped c = λ active. misshapen _ _ (sym c.if-not-is_shaped.ensures)

pub returns-then-not-is_occupied : goal.returns-then-not-is_occupied
returns-then-not-is_occupied c = λ active. no_block _ _ (sym c.if-not-is_shaped.ensures) (sym c.if-not-is_occupied.ensures)

pub met_under-requires : goal.met_under-requires
met_under-requires c =
    (few-slots (viewed c.args.view.now) (sym c.if-not-is_shaped.ensures), sym c.if-not-is_occupied.ensures)

pub returns : goal.returns
returns c =
    λ active. counted _ _ (sym c.if-not-is_shaped.ensures) (sym c.if-not-is_occupied.ensures) _ _ c.met_under.ensures.0 c.met_under.ensures.1
