-- The next slot with a value: what a search has passed over, and where it ends.
use mathlib.Core.Path.{◌≡◌, subst, ◌∙◌}
use mathlib.Core.Logic.{◌≢◌}
use mathlib.Core.Bool.{Bool, true, false, not, ◌&&◌}
use mathlib.Core.List.{List}
use Rattle.std.specs.Prelude.{Option, None, Some}
use Prim.Native.Nat.{ℕ, suc, ◌+◌, ◌-◌, ◌<◌, ◌≤◌}
use native.Mathlib.Omega.{arith}
use borrow.Author.Tests.{eq-eqb, ne_eqb, lt-ltb, le-ltb, eqb-true, ltb-false, not-true}
use lib.Dec.{eqb, ltb, leb}
use lib.ListN.{length, get_or}
use Rattle.std.proofs.lemmas.Bool.{le-leb, lt-leb}
use Rattle.rules.specs.Common.{lowest}
use Rattle.rules.specs.Records.{NONE, slots_of}
use Rattle.rules.proofs.Cells.{get_d_any}
use Rattle.rules.proofs.Splits.{split, less?, option?, and-true, true-not-false}
use Rattle.rules.proofs.Search.{lowest-skips, lowest-holds, lowest-misses, lowest-least, lowest-none, lowest-ext}
use Rattle.cells.specs.Places.{holds_from, next_at}

-- in range the default does not matter
pub read_there : (words : List ℕ) (i : ℕ) → i < length words → get_or words i NONE ≡ get_or words i 0
read_there words i l = get_d_any words i NONE 0 l

module _ (words : List ℕ) (from value : ℕ) where
  -- none of the slots from `from` to before k holds the value
  abbrev pub Differ : ℕ → Type 0
  Differ k = (from ≤ k) × ((j : ℕ) → from ≤ j → j < k → get_or words j NONE ≢ value)

  below : (k : ℕ) → k < from → holds_from words from value k ≡ false
  unfolding holds_from
  below k l = rw (lt-ltb k from l)

  differs : (k : ℕ) → get_or words k NONE ≢ value → holds_from words from value k ≡ false
  unfolding holds_from
  differs k ne = split (ltb k from) (λ t. rw t) (λ f. rw (f, ne_eqb (get_or words k NONE) value ne))

  pub holds : (k : ℕ) → from ≤ k → holds_from words from value k ≡ eqb (get_or words k NONE) value
  unfolding holds_from
  holds k l = rw (le-ltb k from l)

  held : (k : ℕ) → holds_from words from value k ≡ true → (from ≤ k) × (get_or words k NONE ≡ value)
  unfolding holds_from
  held k t =
      let p = and-true (not (ltb k from)) (eqb (get_or words k NONE) value) t in
      (ltb-false k from (not-true (ltb k from) p.0), eqb-true (get_or words k NONE) value p.1)

  -- what is passed over need not be looked at
  pub next-from : (k : ℕ) → Differ k → lowest (λ j. leb k j && eqb (get_or words j NONE) value) (slots_of words) ≡ next_at words from value
  unfolding next_at
  next-from k d = lowest-ext _ _ (slots_of words) (λ j l. less? j k
      (λ b. rw (lt-leb k j b, less? j from (below j) (λ a. differs j (d.1 j a b))))
      (λ a. rw (le-leb k j a, holds j (omega (arith, d.0)))))

-- each slot has a number of its own that is not NONE
pub slots-named : (words : List ℕ) → slots_of words ≤ NONE
unfolding slots_of
slots-named words = omega arith

-- how much is left to look at from the next slot on
abbrev pub left : (words : List ℕ) (next : Option ℕ) → ℕ
left words None = 0
left words (Some i) = suc (slots_of words - i)

pub next-left : (words : List ℕ) (i value : ℕ) → i < slots_of words → left words (next_at words (i + 1) value) < left words (Some i)
unfolding next_at
next-left words i value l = option? (lowest (holds_from words (i + 1) value) (slots_of words))
    (λ n. rw n (omega arith))
    (λ k s. rw s (omega (arith, l, (lowest-holds _ (slots_of words) k s).0, (held words (i + 1) value k (lowest-holds _ (slots_of words) k s).1).0)))

-- ---- a search by a test that no slot with another value passes

module _ (words : List ℕ) (value : ℕ) (test : ℕ → Bool) where
  -- nothing before the next slot with the value passes
  abbrev pub Searched : Option ℕ → Type 0
  Searched None = lowest test (slots_of words) ≡ None
  Searched (Some i) = (i < slots_of words) × ((lowest test i ≡ None) × (get_or words i NONE ≡ value))

  pub searched : (next : Option ℕ) (is : Option ℕ) → next ≡ is → Searched next → Searched is
  searched next is e s = subst Searched e s

  module _ (other : (j : ℕ) → get_or words j NONE ≢ value → test j ≡ false) where
    pub search-from : (from : ℕ) → from ≤ slots_of words → lowest test from ≡ None → Searched (next_at words from value)
    unfolding next_at
    search-from from l e = option? (lowest (holds_from words from value) (slots_of words))
        (λ n. rw n (lowest-skips test from (slots_of words) l e
        (λ j a b. other j (λ q. true-not-false (holds words from value j a ∙ eq-eqb (get_or words j NONE) value q) (lowest-misses _ (slots_of words) j n b)))))
        (λ k s.
        let there = lowest-holds _ (slots_of words) k s in
        let has = held words from value k there.1 in
        rw s (
          there.0,
          (
            lowest-skips test from k has.0 e
                (λ j a b. other j (λ q. true-not-false (holds words from value j a ∙ eq-eqb (get_or words j NONE) value q) (lowest-least _ (slots_of words) k j s b))),
            has.1,
          ),
        ))

    pub search-first : Searched (next_at words 0 value)
    search-first = search-from 0 (omega arith) (lowest-none test)

-- a test that says no more than that the slot has the value
pub next-lowest : (words : List ℕ) (value : ℕ) (test : ℕ → Bool) → ((j : ℕ) → test j ≡ eqb (get_or words j NONE) value)
    → next_at words 0 value ≡ lowest test (slots_of words)
unfolding next_at
next-lowest words value test says = lowest-ext _ _ (slots_of words) (λ j l. rw (holds words 0 value j (omega arith), says j))
