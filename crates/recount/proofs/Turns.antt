-- What the turns of a loop have made.
use Rattle.rules.proofs.Search.{in-order-none, in-order-next}

pub ruleset turns = (in-order-none, in-order-next)
