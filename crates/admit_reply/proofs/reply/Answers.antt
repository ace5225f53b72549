-- Each test in turn.
use mathlib.Core.Path.{◌≡◌, refl, sym}
use mathlib.Core.Bool.{true, false, ◌&&◌}
use native.Mathlib.Omega.{arith}
use lib.Dec.{eqb}
use lib.ListN.{length}
use borrow.Author.Tests.{eq-eqb}
use Rattle.std.specs.Prelude.{Option, None, Some, is_some}
use Rattle.std.proofs.lemmas.Bool.Decides.{nat_tests}
use Rattle.rules.specs.declared.BlockSlot.{BlockSlot}
use Rattle.rules.specs.Hashes.{hash_length, zero_hash, same_hash}
use Rattle.rules.specs.BlockTable.{find}
use Rattle.rules.specs.Answers.{slot_found}
use Rattle.rules.specs.Calls.{admit}
use Rattle.admit_reply.proofs.OwnHash.{own-hash}
use Rattle.admit_reply.proofs.reply.Goals as goal

pub returns-then-not-is_shaped : goal.returns-then-not-is_shaped
unfolding admit
returns-then-not-is_shaped c a r = rw (sym c.if-not-is_shaped.ensures)

pub returns-then-hash-ne32 : goal.returns-then-hash-ne32
unfolding admit
returns-then-hash-ne32 c a r =
    let cut : (eqb (length c.args.hash.now) hash_length && eqb (length c.args.previous.now) hash_length) ≡ false =
    grind (arith, nat_tests) in
    rw (sym c.if-not-is_shaped.ensures, cut)

pub returns-then-eq : goal.returns-then-eq
unfolding admit
returns-then-eq c a r =
    let e = sym c.if-not-is_shaped.ensures in
    rw (e, eq-eqb _ _ c.if-hash-ne32.false, eq-eqb _ _ c.if-previous-ne32.false, sym c.if-eq.ensures)

pub returns-then-same_hash : goal.returns-then-same_hash
unfolding admit
returns-then-same_hash c a r =
    let e = sym c.if-not-is_shaped.ensures in
    let o = own-hash c.args.hash.now c.if-hash-ne32.false in
    let z : same_hash c.args.hash.now zero_hash ≡ true = cc in
    rw (e, eq-eqb _ _ c.if-hash-ne32.false, eq-eqb _ _ c.if-previous-ne32.false, sym c.if-eq.ensures, z)

some-found : (r : Option BlockSlot) → is_some (slot_found r) ≡ is_some r
some-found None = refl
some-found (Some s) = refl

pub returns-then-is_some : goal.returns-then-is_some
unfolding admit
returns-then-is_some c a r =
    let e = sym c.if-not-is_shaped.ensures in
    let o = own-hash c.args.hash.now c.if-hash-ne32.false in
    let z : same_hash c.args.hash.now zero_hash ≡ false = cc in
    let s = some-found c.find.result in
    let k : is_some (find c.args.view.now.hashes.now c.args.view.now.sequences.now c.args.sequence.0 c.args.hash.now) ≡ true = cc in
    rw (e, eq-eqb _ _ c.if-hash-ne32.false, eq-eqb _ _ c.if-previous-ne32.false, sym c.if-eq.ensures, z, k)

slot? {ℓ} : {A : Type ℓ} (r : Option BlockSlot) → (r ≡ None → A) → ((s : BlockSlot) → r ≡ Some s → A) → A
slot? None f g = f refl
slot? (Some s) f g = g s refl

pub returns : goal.returns
unfolding admit
returns c a r =
    let e = sym c.if-not-is_shaped.ensures in
    let o = own-hash c.args.hash.now c.if-hash-ne32.false in
    let z : same_hash c.args.hash.now zero_hash ≡ false = cc in
    let s = some-found c.find.result in
    let k : is_some (find c.args.view.now.hashes.now c.args.view.now.sequences.now c.args.sequence.0 c.args.hash.now) ≡ false = cc in
    rw (
      e,
      eq-eqb _ _ c.if-hash-ne32.false,
      eq-eqb _ _ c.if-previous-ne32.false,
      sym c.if-eq.ensures,
      z,
      k,
      c.ok_or.ensures.value,
      ← c.next_free_index.ensures,
    )
    (slot? c.next_free_index.result (λ n. rw n) (λ i n. rw n))
