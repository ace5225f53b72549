-- The searches of the rules as std's words say a chain over a range of numbers.
use mathlib.Core.Path.{◌≡◌, refl, sym, ap, ◌∙◌}
use mathlib.Core.Bool.{Bool, ◌&&◌}
use mathlib.Core.List.{List, [], ◌∷◌, ◌++◌, map-id}
use Rattle.std.specs.Prelude.{Option, None, Some, is_some, if◌then◌else◌}
use Rattle.std.specs.Option.{option_or, option_map}
use Rattle.std.specs.List.{find, list_any, filter, range_with_len}
use Rattle.std.proofs.lemmas.Bool.{le-leb, lt-leb}
use Rattle.std.proofs.lemmas.List.Folds.{find-append}
use Rattle.std.proofs.lemmas.List.Elements.{filter-append}
use Rattle.std.proofs.iter.Yields.{nat_range_steps}
use Rattle.std.proofs.lemmas.Iterator.{YieldsList-from_range, YieldsList-from_map_by, maps}
use Rattle.std.proofs.lemmas.Iterator.Consumers.{YieldsList-from_filter, count_from_yields_List}
use Rattle.std.proofs.lemmas.Iterator.Search.{find_from_yields_List, any_from_yields_List}
use Rattle.std.specs.Fn.{Called, CalledAt}
use Rattle.std.specs.Iterator.{FindsItem, ChecksAny, Drains}
use Rattle.std.specs.declared.iter.Filter.{Filter}
use Rattle.std.specs.declared.ops.Range.{Range}
use Rattle.std.specs.declared.iter.Map.{Map}
use Rattle.std.specs.Iterator.Adapters.{map_source, map_callee, filter_source, filter_callee, filter_steps}
use denote.Param.Members.{Mut}
use denote.Ref.{Bor}
use Prim.Native.Nat.{ℕ, zero, suc, ◌+◌, ◌-◌}
use native.Mathlib.Omega.{arith}
use lib.Dec.{leb}
use lib.ListN.{length, length-append}
use Rattle.rules.specs.Common.{lowest, count_below, all_below}
use Rattle.rules.proofs.Splits.{split, less?, option?}

-- a range one longer has one number more at its end
pub last : (a n k : ℕ) → a + n ≡ k → range_with_len a (suc n) ≡ range_with_len a n ++ k ∷ []
last a zero k e = let f : a ≡ k = omega arith in ap (λ j. j ∷ []) f
last a (suc n) k e = ap (λ l. a ∷ l) (last (a + 1) n k (omega arith))

module _ (test : ℕ → Bool) where
  abbrev one : ℕ → Option ℕ
  one k = if test k then Some k else None

  find-last : (a n k : ℕ) → a + n ≡ k → find test (range_with_len a (suc n)) ≡ option_or (find test (range_with_len a n)) (one k)
  find-last a n k e = ap (find test) (last a n k e) ∙ find-append test (range_with_len a n) (k ∷ [])

  lowest-last : (n : ℕ) → lowest test (suc n) ≡ option_or (lowest test n) (one n)
  unfolding lowest
  lowest-last n = option? (lowest test n) (λ e. rw (e, lowest)) (λ i e. rw (e, lowest))

  pub lowest-find : (n : ℕ) → lowest test n ≡ find test (range_with_len 0 n)
  unfolding lowest
  lowest-find zero = refl
  lowest-find (suc n) = lowest-last n ∙ rw (lowest-find n) (sym (find-last 0 n n (omega arith)))

  -- whether one passes
  find-any : (l : List ℕ) → is_some (find test l) ≡ list_any test l
  find-any [] = refl
  find-any (x ∷ l) = split (test x) (λ e. rw e) (λ e. rw e (find-any l))

  pub lowest-any : (n : ℕ) → is_some (lowest test n) ≡ list_any test (range_with_len 0 n)
  lowest-any n = ap is_some (lowest-find n) ∙ find-any (range_with_len 0 n)

  pub all-filter : (n : ℕ) → all_below test n ≡ filter test (range_with_len 0 n)
  unfolding all_below
  all-filter zero = refl
  all-filter (suc n) =
      rw (all-filter n) (sym (ap (filter test) (last 0 n n (omega arith)) ∙ filter-append test (range_with_len 0 n) (n ∷ [])))

  -- how many pass
  count-all : (n : ℕ) → count_below test n ≡ length (all_below test n)
  unfolding count_below all_below
  count-all zero = refl
  count-all (suc n) = split (test n)
      (λ e. rw e (omega (arith, count-all n, length-append (all_below test n) (n ∷ []))))
      (λ e. rw e (omega (arith, count-all n, length-append (all_below test n) [])))

  pub count-filter : (n : ℕ) → count_below test n ≡ length (filter test (range_with_len 0 n))
  count-filter n = count-all n ∙ ap length (all-filter n)

-- from a number on
pub lowest-from : (test : ℕ → Bool) (from n : ℕ) → lowest (λ k. leb from k && test k) n ≡ find test (range_with_len from (n - from))
unfolding lowest
lowest-from test from zero = let e : 0 - from ≡ 0 = omega arith in rw e
lowest-from test from (suc n) =
    lowest-last (λ k. leb from k && test k) n ∙ rw (lowest-from test from n) (less? n from
    (λ l. let a : n - from ≡ 0 = omega arith in let b : suc n - from ≡ 0 = omega arith in rw (lt-leb from n l, a, b))
    (λ l. let a : suc n - from ≡ suc (n - from) = omega arith in
    rw (le-leb from n l, a) (sym (find-last test from (n - from) n (omega arith)))))

map-same : (r : Option ℕ) → r ≡ option_map (λ k. k) r
map-same None = refl
map-same (Some k) = refl

-- ---- the chains: n is where the code's range ends, k the same as the rule says it

module _ {F : Type 0} where
  -- what a closure says of a number, or of what holds one, and that it stays as it is
  abbrev pub Says : {A : Type 0} (g : Mut F (Bor A × Unit {0}) Bool) (f : F) (test : A → Bool) → Type 0
  Says {A} g f test = (x : A) (b : Bool) (q : F) → CalledAt g f x b q → (q ≡ f) × (b ≡ test x)

  module _ {n k : ℕ} (test : ℕ → Bool) where
    -- `(a..n).map(HeadSlot).find(..)`
    module _ {f : F} {a : ℕ} {M A : Type 0} {m : Mut M (ℕ × Unit {0}) A} {g : Mut F (Bor A × Unit {0}) Bool} {s : Map (Range ℕ) M}
        (v : A → ℕ) (u : Map (Range ℕ) M) (r : Option A) (ends : n ≡ k) (from : map_source s ≡ record { start = a; end = n })
        (ran : FindsItem (maps nat_range_steps m) g s f r u)
        (made : (x : ℕ) (y : A) (q : M) → Called m (map_callee s) (x, tt) y q → (q ≡ map_callee s) × (v y ≡ x))
        (says : Says g f (λ x. test (v x))) where
      found : option_map v r ≡ find test (range_with_len a (k - a))
      found = rw (← map-id (range_with_len a (k - a))) (find_from_yields_List test u f r ran
          (YieldsList-from_map_by m v (λ j. j) (YieldsList-from_range a n (k - a) from (omega arith)) refl made) says)

      pub find-mapped : a ≡ 0 → option_map v r ≡ lowest test k
      find-mapped e = let same : k - a ≡ k = omega arith in found ∙ rw (same, e) (sym (lowest-find test k))

      pub find-from : option_map v r ≡ lowest (λ j. leb a j && test j) k
      find-from = found ∙ sym (lowest-from test a k)

    -- `(a..n).find(..)`
    pub find-on : {f : F} {a : ℕ} {g : Mut F (Bor ℕ × Unit {0}) Bool} (u : Range ℕ) (r : Option ℕ) → n ≡ k
        → FindsItem nat_range_steps g (record { start = a; end = n }) f r u → Says g f test → r ≡ lowest (λ j. leb a j && test j) k
    find-on {f = f} {a} u r ends ran says =
        map-same r ∙ find_from_yields_List test u f r ran (YieldsList-from_range a n (k - a) refl (omega arith)) says
        ∙ sym (lowest-from test a k)

    -- `(0..n).any(..)`
    pub any-lowest : {f : F} {g : Mut F (ℕ × Unit {0}) Bool} (u : Range ℕ) (r : Bool) → n ≡ k
        → ChecksAny nat_range_steps g (record { start = 0; end = n }) f r u
        → ((x : ℕ) (b : Bool) (q : F) → Called g f (x, tt) b q → (q ≡ f) × (b ≡ test x)) → r ≡ is_some (lowest test k)
    any-lowest {f = f} u r ends ran says =
        rw lowest-any (any_from_yields_List test u f r ran (YieldsList-from_range 0 n k refl (omega arith)) says)

    -- `(0..n).filter(..).count()`
    pub count-number : {g : Mut F (Bor ℕ × Unit {0}) Bool} {s : Filter (Range ℕ) F} (r : ℕ) → n ≡ k
        → filter_source s ≡ record { start = 0; end = n } → ((xs : List ℕ) × Drains (filter_steps nat_range_steps g) s xs × (r ≡ length xs))
        → Says g (filter_callee s) test → r ≡ count_below test k
    count-number {g = g} {s} r ends from ran says =
        rw count-filter (count_from_yields_List s r ran
        (YieldsList-from_filter g test (YieldsList-from_range 0 n k from (omega arith)) refl says))
