-- `next` is the next slot with the sequence, and none before it holds the block.
use Rattle.rules.specs.BlockTable.{is_block}
use Rattle.cells.proofs.Places.{Searched, left}
use Rattle.blocks.proofs.find.Given as goal

abbrev pub invariant-loop-next : goal.invariant-loop-next
invariant-loop-next l = Searched l.sequences l.sequence.0 (is_block l.hashes l.sequences l.sequence.0 l.hash) l.next

abbrev pub decreases-loop-next : goal.decreases-loop-next
decreases-loop-next l = left l.sequences l.next
