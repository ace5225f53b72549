-- The timer's choices: no head that may be asked for goes before the chosen one, and no stored head is due before the deadline.
use mathlib.Core.Path.{◌≡◌, sym, ◌∙◌}
use mathlib.Core.Bool.{true, false}
use mathlib.Core.List.{List}
use Rattle.std.specs.Prelude.{None, Some}
use Prim.Native.Nat.{ℕ, ◌<◌, ◌≤◌}
use native.Mathlib.Omega.{arith}
use borrow.Author.Tests.{lt-ltb, le-ltb, ltb-true, ltb-false}
use lib.Dec.{ltb}
use Rattle.rules.specs.Records.{slots_of, tip_at, requested_at, stored}
use Rattle.rules.specs.Eviction.{block_before}
use Rattle.rules.specs.Timer.{due, may_ask, asks_before, chosen, due_first, deadline}
use Rattle.rules.proofs.Splits.{option?, some-not-none}
use Rattle.rules.proofs.Orders.{Strict, strict-at, strict-first, blocks-strict}
use Rattle.rules.proofs.Best.{best-holds, best-misses, best-first, best-lowest}

-- ---- the head to ask for

pub asks-strict : (hashes sequences tips requested : List ℕ) → Strict (asks_before hashes sequences tips requested)
unfolding asks_before
asks-strict hashes sequences tips requested =
    strict-first (requested_at requested) (λ j k. block_before hashes sequences (tip_at tips j) (tip_at tips k))
    (strict-at (tip_at tips) (block_before hashes sequences) (blocks-strict hashes sequences))

module _ (hashes sequences tips requested connected : List ℕ) (now retry : ℕ) where
  pub chosen-may : (k : ℕ) → chosen hashes sequences tips requested connected now retry ≡ Some k
      → (k < slots_of tips) × (may_ask sequences tips requested connected now retry k ≡ true)
  unfolding chosen
  chosen-may k e = best-holds _ _ (slots_of tips) k e

  pub none-may : (j : ℕ) → chosen hashes sequences tips requested connected now retry ≡ None
      → j < slots_of tips → may_ask sequences tips requested connected now retry j ≡ false
  unfolding chosen
  none-may j e l = best-misses _ _ (slots_of tips) j e l

  pub chosen-first : (k j : ℕ) → chosen hashes sequences tips requested connected now retry ≡ Some k
      → j < slots_of tips → may_ask sequences tips requested connected now retry j ≡ true → asks_before hashes sequences tips requested j k ≡ false
  unfolding chosen
  chosen-first k j e l t = best-first _ _ (asks-strict hashes sequences tips requested) (slots_of tips) k j e l t

  pub chosen-lowest : (k j : ℕ) → chosen hashes sequences tips requested connected now retry ≡ Some k
      → j < k → may_ask sequences tips requested connected now retry j ≡ true → asks_before hashes sequences tips requested k j ≡ true
  unfolding chosen
  chosen-lowest k j e l t = best-lowest _ _ (asks-strict hashes sequences tips requested) (slots_of tips) k j e l t

-- ---- the deadline

numbers-strict : Strict ltb
numbers-strict = record {
  irreflexive = λ i. le-ltb i i (omega arith);
  transitive = λ i j k p q. lt-ltb i k (omega (arith, ltb-true i j p, ltb-true j k q));
  ties = λ i j k p q. le-ltb i k (omega (arith, ltb-false i j p, ltb-false j k q));
}

module _ (tips requested connected : List ℕ) (retry : ℕ) where
  first-least : (k j : ℕ) → due_first tips requested connected retry ≡ Some k
      → j < slots_of tips → stored tips connected j ≡ true → due (requested_at requested k) retry ≤ due (requested_at requested j) retry
  unfolding due_first
  first-least k j e l t =
      ltb-false _ _ (best-first _ _ (strict-at (λ i. due (requested_at requested i) retry) ltb numbers-strict) (slots_of tips) k j e l t)

  first-misses : (j : ℕ) → due_first tips requested connected retry ≡ None → j < slots_of tips → stored tips connected j ≡ false
  unfolding due_first
  first-misses j e l = best-misses _ _ (slots_of tips) j e l

  at : (k : ℕ) → due_first tips requested connected retry ≡ Some k → deadline tips requested connected retry ≡ Some (due (requested_at requested k) retry)
  unfolding deadline
  at k e = rw (e, deadline)

  never : due_first tips requested connected retry ≡ None → deadline tips requested connected retry ≡ None
  unfolding deadline
  never e = rw (e, deadline)

  pub deadline-least : (time j : ℕ) → deadline tips requested connected retry ≡ Some time
      → j < slots_of tips → stored tips connected j ≡ true → time ≤ due (requested_at requested j) retry
  deadline-least time j e l t = option? (due_first tips requested connected retry)
      (λ q. some-not-none {o = deadline tips requested connected retry} {i = time} e (never q))
      (λ k q. let s : Some time ≡ Some (due (requested_at requested k) retry) = sym e ∙ at k q in
      let p : time ≡ due (requested_at requested k) retry = cc in
      rw p (first-least k j q l t))

  pub deadline-never : (j : ℕ) → deadline tips requested connected retry ≡ None → j < slots_of tips → stored tips connected j ≡ false
  deadline-never j e l = option? (due_first tips requested connected retry)
      (λ q. first-misses j q l)
      (λ k q. some-not-none {o = deadline tips requested connected retry} {i = due (requested_at requested k) retry} (at k q) e)
