-- One child at least, where some slot passes.
use Rattle.std.proofs.Common.{rules, refl}
use borrow.Author.Tests.{tests}
use native.Mathlib.Omega.{arith}
use mathlib.Core.List.{map-id}
use Rattle.std.specs.List.{range_with_len}
use Rattle.std.proofs.lemmas.Iterator.{YieldsList-from_range, YieldsList-from_map_by}
use Rattle.std.proofs.lemmas.Iterator.Search.{any_from_yields_List}
use Rattle.rules.specs.Records.{slots_of}
use Rattle.rules.specs.BlockTable.{child_of, children, childless}
use Rattle.children.proofs.Some.{any-counted}
use Rattle.children.proofs.has_child.Goals as goal

pub returns : goal.returns
unfolding childless children
returns c =
    let test = child_of c.args.parents.now c.args.sequences.now c.args.slot.0 in
    let n = slots_of c.args.sequences.now in
    rw (← any-counted test n, ← map-id (range_with_len 0 n)) (any_from_yields_List test _ _ _ c.any.ensures.ran
    (YieldsList-from_map_by _ (λ s. s.0) (λ j. j) (YieldsList-from_range _ _ n c.map.ensures.source (omega (arith, c.slots.ensures))) refl
    (λ x y q k. search rules)) (λ x b q k. search (rules, tests)))
