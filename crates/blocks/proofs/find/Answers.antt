-- `next` is the next slot with the sequence, and none before it holds the block.
use Rattle.std.proofs.Common.{arith, sym}
use Rattle.rules.specs.BlockTable.{find}
use Rattle.rules.proofs.Search.{lowest-at}
use Rattle.cells.proofs.Places.{searched, slots-named, next-left}
use Rattle.blocks.proofs.Found.{fits, none_found, found-first, found-next}
use Rattle.blocks.proofs.find.Goals as goal

pub returns-then-eq : goal.returns-then-eq
unfolding find
returns-then-eq c = grind (arith, none_found)

pub loop-next-init : goal.loop-next-init
loop-next-init c = rw c.next_at-next.ensures (found-first _ _ _ _)

pub returns-then-same_hash_at : goal.returns-then-same_hash_at
unfolding find
returns-then-same_hash_at c =
    let s = searched _ _ _ _ _ c.in-Some.is c.loop-next.invariant in
    sym (lowest-at _ c.in-Some.i _ s.1.0 (grind (arith, fits, s.1.1)) s.0)

pub overflow_add-i : goal.overflow_add-i
overflow_add-i c = let s = searched _ _ _ _ _ c.in-Some.is c.loop-next.invariant in omega (arith, s.0, slots-named c.args.sequences.now)

pub loop-next-smaller : goal.loop-next-smaller
loop-next-smaller c =
    let s = searched _ _ _ _ _ c.in-Some.is c.loop-next.invariant in
    rw (c.in-Some.is, c.next_at-next-in-Some.ensures) (next-left _ c.in-Some.i _ s.0)

pub loop-next-preserved : goal.loop-next-preserved
loop-next-preserved c =
    let s = searched _ _ _ _ _ c.in-Some.is c.loop-next.invariant in
    rw c.next_at-next-in-Some.ensures (found-next _ _ _ _ c.in-Some.i s (grind (arith, fits, s.1.1)))

pub returns : goal.returns
unfolding find
returns c = sym (searched _ _ _ _ _ c.in_default.is c.loop-next.invariant)
