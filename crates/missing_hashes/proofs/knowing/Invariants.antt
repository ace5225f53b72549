-- `next` is the next head with this tail, and none before it waits there.
use Rattle.rules.specs.Caches.{waits_at}
use Rattle.cells.proofs.Places.{Searched, left}
use Rattle.missing_hashes.proofs.knowing.Given as goal

abbrev pub invariant-loop-next : goal.invariant-loop-next
invariant-loop-next l = Searched l.tails l.tail.0 (waits_at l.tips l.tails l.connected l.tail.0) l.next

abbrev pub decreases-loop-next : goal.decreases-loop-next
decreases-loop-next l = left l.tails l.next
