-- The heads before `k` are done.
use mathlib.Core.Path.{◌≡◌}
use Rattle.rules.specs.Common.{in_order}
use Rattle.rules.specs.Records.{heads_of}
use Rattle.rules.specs.Answers.{head_found}
use Rattle.rules.specs.Removal.{drop_head}
use Rattle.removal.proofs.drop_heads.Given as goal

abbrev pub invariant-loop-k : goal.invariant-loop-k
invariant-loop-k l =
    heads_of l.tips l.tails l.missing l.requested l.arrivals l.connected
    ≡ in_order (drop_head l.deleted (head_found l.moving) l.reattach.0) l.k
    (heads_of l.fn.tips l.fn.tails l.fn.missing l.fn.requested l.fn.arrivals l.fn.connected)
