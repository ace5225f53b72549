-- The bytes before `k` agree.
use borrow.Author.Rules.{rules}
use borrow.Author.Tests.{lt-ltb, le-ltb}
use native.Mathlib.Omega.{arith}
use mathlib.Core.Path.{◌≡◌, sym, ◌∙◌}
use lib.ListN.{length, get_or}
use Rattle.rules.proofs.Splits.{less?}
use Rattle.rules.proofs.Hashes.{less-below, less-above, less-goes, less-end}
use Rattle.cells.proofs.hash_less.Goals as goal

pub loop-k-preserved : goal.loop-k-preserved
loop-k-preserved c =
    let x : length c.args.a ≡ 32 = search rules in
    let y : length c.args.b ≡ 32 = search rules in
    c.loop-k.invariant ∙ less-goes c.args.a c.args.b c.loop-k.k (omega arith) (omega arith) (omega (arith, c.if-a-k.false)) (omega (arith, c.if-a-k.false))

pub returns-then-a-k : goal.returns-then-a-k
returns-then-a-k c =
    let x : length c.args.a ≡ 32 = search rules in
    let y : length c.args.b ≡ 32 = search rules in
    let mine = get_or c.args.a c.loop-k.k 0 in
    let other = get_or c.args.b c.loop-k.k 0 in
    less? mine other
    (λ l. lt-ltb mine other l ∙ sym (c.loop-k.invariant ∙ less-below c.args.a c.args.b c.loop-k.k (omega arith) (omega arith) l))
    (λ l. le-ltb mine other l ∙ sym (c.loop-k.invariant ∙ less-above c.args.a c.args.b c.loop-k.k (omega arith) (omega arith) (omega (arith, c.if-a-k.true))))

pub returns : goal.returns
returns c =
    let x : length c.args.a ≡ 32 = search rules in
    sym (c.loop-k.invariant ∙ less-end c.args.a c.args.b c.loop-k.k (omega arith))
