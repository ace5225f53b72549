-- Each front is what the listing reads.
use Rattle.trial_fronts.proofs.Lending.{front-is, lists-front}
use Rattle.trial_fronts.proofs.list_front.Goals as goal

pub returns : goal.returns
returns c =
    lists-front _ _ _ _ _ _ _ _ _ _ _ _ _ _ _ _ c.listing.ensures
    (front-is _ c.min-parent_end.result c.args.parents.now c.min-parent_end.ensures)
    (front-is _ c.min-sequence_end.result c.args.sequences.now c.min-sequence_end.ensures)
    (front-is _ c.min-count_end.result c.args.counts.now c.min-count_end.ensures)
    (front-is _ c.min-flag_end.result c.args.flags.now c.min-flag_end.ensures)
    (front-is _ c.min-tip_end.result c.args.tips.now c.min-tip_end.ensures)
    (front-is _ c.min-tail_end.result c.args.tails.now c.min-tail_end.ensures)
    (front-is _ c.min-connected_end.result c.args.connected.now c.min-connected_end.ensures)
