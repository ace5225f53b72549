-- `next` is the next head with this tail, and none before it waits there.
use Rattle.std.proofs.Common.{arith, ◌≡◌, ◌+◌}
use Rattle.rules.specs.Records.{slots_of}
use Rattle.rules.specs.Caches.{waits_at, knowing}
use Rattle.rules.proofs.Search.{lowest-next, lowest-at}
use Rattle.cells.proofs.Places.{searched, slots-named, next-left, search-from, search-first}
use Rattle.missing_hashes.proofs.Waits.{waits-elsewhere, waits-stored}
use Rattle.missing_hashes.proofs.knowing.Goals as goal

pub loop-next-init : goal.loop-next-init
loop-next-init c = rw c.next_at-next.ensures (search-first _ _ _ (waits-elsewhere _ _ _ _))

pub returns-then-is_stored : goal.returns-then-is_stored
unfolding knowing
returns-then-is_stored c =
    let a = c.args in
    let s = searched _ _ _ _ _ c.in-Some.is c.loop-next.invariant in
    let waits = waits-stored a.tips.now a.tails.now a.connected.now a.tail.0 c.in-Some.k s.1.1 in
    let e = lowest-at (waits_at a.tips.now a.tails.now a.connected.now a.tail.0) c.in-Some.k (slots_of a.tips.now) s.1.0
    (grind (arith, waits)) (grind (arith, s.0)) in
    rw (e, knowing)

pub overflow_add-k : goal.overflow_add-k
overflow_add-k c = let s = searched _ _ _ _ _ c.in-Some.is c.loop-next.invariant in omega (arith, s.0, slots-named c.args.tails.now)

pub loop-next-smaller : goal.loop-next-smaller
loop-next-smaller c =
    let s = searched _ _ _ _ _ c.in-Some.is c.loop-next.invariant in
    rw (c.in-Some.is, c.next_at-next-in-Some.ensures) (next-left _ c.in-Some.k _ s.0)

pub loop-next-preserved : goal.loop-next-preserved
loop-next-preserved c =
    let s = searched _ _ _ _ _ c.in-Some.is c.loop-next.invariant in
    let waits = waits-stored c.args.tips.now c.args.tails.now c.args.connected.now c.args.tail.0 c.in-Some.k s.1.1 in
    rw c.next_at-next-in-Some.ensures (search-from _ _ _ (waits-elsewhere _ _ _ _) (c.in-Some.k + 1)
    (omega (arith, s.0)) (lowest-next _ _ s.1.0 (grind (arith, waits))))

pub returns : goal.returns
unfolding knowing
returns c =
    let same : slots_of c.args.tails.now ≡ slots_of c.args.tips.now = grind arith in
    rw (← same, searched _ _ _ _ _ c.in_default.is c.loop-next.invariant, knowing)
