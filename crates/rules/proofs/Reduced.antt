-- The number that goes before all others that pass, as a chain that reduces those that pass, or folds all and takes the test in each step.
use Rattle.std.specs.Prelude.{if◌then◌else◌, Option, None, Some}
use Rattle.std.specs.Option.{option_map, MatchOption, IsSomeAnd}
use Rattle.std.specs.List.{filter, range_with_len, fold, reduce, FoldsTo}
use Rattle.std.specs.Fn.{Called}
use Rattle.std.specs.Iterator.{ReducesItems, FoldsItems, FoldTurn}
use Rattle.std.proofs.iter.Yields.{gives_Drains}
use Rattle.std.proofs.lemmas.Iterator.{YieldsList}
use Rattle.std.proofs.lemmas.List.Sums.{fold-append}
use Rattle.std.proofs.lemmas.Option.{MatchOption-at_none, MatchOption-at_some}
use denote.Param.Members.{Mut}
use mathlib.Core.Path.{◌≡◌, refl, sym, ap, subst, ◌∙◌}
use mathlib.Core.Bool.{Bool, ◌&&◌}
use mathlib.Core.List.{List, [], ◌∷◌, ◌++◌, map, map-id, append-nil}
use Prim.Native.Nat.{ℕ, zero, suc}
use native.Mathlib.Omega.{arith}
use Rattle.rules.specs.Common.{better, best, all_below}
use Rattle.rules.proofs.Splits.{split}
use Rattle.rules.proofs.Ranges.{last, all-filter}

-- ---- the steps of a chain, whose state stands for that of a fold over what v reads of the items

module _ {A B C D F : Type 0} (v : A → B) (g : Mut F (C × (A × Unit {0})) C) (f : F) (stands : C → D → Type 0) (step : D → B → D)
    (says : (a : C) (d : D) (x : A) (b : C) (q : F) → stands a d → Called g f (a, (x, tt)) b q → (q ≡ f) × stands b (step d (v x))) where
  folds : (xs : List A) (p q : F × C) (d : D) → p.0 ≡ f → stands p.1 d → FoldsTo {P = F × C} (FoldTurn g) p xs q
      → stands q.1 (fold step d (map v xs))
  folds [] p q d e s h = subst (λ w. stands w.1 d) h s
  folds (x ∷ xs) p q d e s h =
      let said = says p.1 d x h.0.1 h.0.0 s (subst (λ w. Called g w (p.1, (x, tt)) h.0.1 h.0.0) e h.1) in
      folds xs h.0 q (step d (v x)) said.0 said.1 h.2

pub reduced : {A B F S : Type 0} {steps : S → Option A → S → Type 0} {s : S} {all : List B} {g : Mut F (A × (A × Unit {0})) A} {f : F}
    (v : A → B) (pick : B → B → B) (r : Option A) → ReducesItems steps g s f r → YieldsList steps v s all
    → ((a x b : A) (q : F) → Called g f (a, (x, tt)) b q → (q ≡ f) × (v b ≡ pick (v a) (v x))) → option_map v r ≡ reduce pick all
reduced {steps = steps} {s} {all} v pick None h e says = ap (reduce pick) (gives_Drains steps v [] all s e.runs h)
reduced {steps = steps} {s} {all} {g} {f} v pick (Some y) h e says =
    ap Some (folds v g f (λ a d. v a ≡ d) pick
    (λ a d x b q m c. let said = says a x b q c in (said.0, said.1 ∙ ap (λ w. pick w (v x)) m))
    h.1 (f, h.0) (h.2, y) (v h.0) refl refl h.4)
    ∙ ap (reduce pick) (gives_Drains steps v (h.0 ∷ h.1) all s e.runs h.3)

-- ---- the best of those that pass

module _ (before : ℕ → ℕ → Bool) where
  abbrev pub pick : ℕ → ℕ → ℕ
  pick b k = if before k b then k else b

  reduce-last : (l : List ℕ) (k : ℕ) → reduce pick (l ++ k ∷ []) ≡ better before k (reduce pick l)
  unfolding better
  reduce-last [] k = refl
  reduce-last (x ∷ l) k =
      let e : fold pick x (l ++ k ∷ []) ≡ pick (fold pick x l) k = fold-append pick x l (k ∷ []) in
      rw e (split (before k (fold pick x l)) (λ t. rw t) (λ t. rw t))

  best-below : (test : ℕ → Bool) (n : ℕ) → best test before n ≡ reduce pick (all_below test n)
  unfolding best all_below
  best-below test zero = refl
  best-below test (suc n) = split (test n) (λ e. rw (e, reduce-last, best-below test n)) (λ e. rw (e, append-nil, best-below test n))

  pub reduced-best : (test : ℕ → Bool) (n : ℕ) → reduce pick (filter test (map (λ k. k) (range_with_len 0 n))) ≡ best test before n
  reduced-best test n = rw (map-id (range_with_len 0 n), ← all-filter test n) (sym (best-below test n))

-- ---- the best as a chain that folds all, and holds of the number found so far what `held` says

module _ (test : ℕ → Bool) (before : ℕ → ℕ → Bool) where
  abbrev turn : Option ℕ → ℕ → Option ℕ
  turn was k = if test k then better before k was else was

  fold-best : (n : ℕ) → fold turn None (range_with_len 0 n) ≡ best test before n
  unfolding best
  fold-best zero = refl
  fold-best (suc n) =
      ap (fold turn None) (last 0 n n (omega arith)) ∙ fold-append turn None (range_with_len 0 n) (n ∷ []) ∙ ap (λ was. turn was n) (fold-best n)

  pub folded-best : {A C F S : Type 0} {steps : S → Option A → S → Type 0} {s : S} {g : Mut F (Option C × (A × Unit {0})) (Option C)} {f : F}
      (v : A → ℕ) (held : ℕ → C) (n : ℕ) (r : Option C) → FoldsItems steps g s f None r → YieldsList steps v s (map (λ k. k) (range_with_len 0 n))
      → ((x : A) (b : Option C) (q : F) → Called g f (None, (x, tt)) b q → (q ≡ f) × (b ≡ (if test (v x) then Some (held (v x)) else None)))
      → ((i : ℕ) (x : A) (b : Option C) (q : F) → Called g f (Some (held i), (x, tt)) b q
      → (q ≡ f) × (b ≡ (if test (v x) && before (v x) i then Some (held (v x)) else Some (held i))))
      → r ≡ option_map held (best test before n)
  unfolding better
  folded-best {A} {C} {F} {S} {steps} {s} {g} {f} v held n r h e first next =
      rw (← fold-best n, ← map-id (range_with_len 0 n), ← gives_Drains steps v h.0 (map (λ k. k) (range_with_len 0 n)) s e.runs h.2)
      (folds v g f (λ a was. a ≡ option_map held was) turn
      (λ a was x b q m c. says was x b q (subst (λ w. Called g f (w, (x, tt)) b q) m c)) h.0 (f, None) (h.1, r) None refl refl h.3) where
        says : (was : Option ℕ) (x : A) (b : Option C) (q : F) → Called g f (option_map held was, (x, tt)) b q
            → (q ≡ f) × (b ≡ option_map held (turn was (v x)))
        says None x b q c = let said = first x b q c in (said.0, said.1 ∙ split (test (v x)) (λ t. rw t) (λ t. rw t))
        says (Some i) x b q c =
            let said = next i x b q c in
            (said.0, said.1 ∙ split (test (v x)) (λ t. split (before (v x) i) (λ u. rw (t, u)) (λ u. rw (t, u))) (λ t. rw t))

-- `.map(..)` of what is held
pub held-map : {C D E : Type 0} {o : Option C} (P : C → D → Type 0) (held : ℕ → C) (read : D → E) (value : ℕ → E) (b : Option ℕ) (r : Option D)
    → o ≡ option_map held b → MatchOption o (r ≡ None) (λ x. IsSomeAnd r (P x)) → ((k : ℕ) (y : D) → P (held k) y → read y ≡ value k)
    → option_map read r ≡ option_map value b
held-map P held read value None r e m h = ap (option_map read) (MatchOption-at_none _ _ e m)
held-map P held read value (Some k) None e m h = absurd (MatchOption-at_some _ (λ x. IsSomeAnd None (P x)) (held k) e m)
held-map P held read value (Some k) (Some y) e m h = ap Some (h k y (MatchOption-at_some _ (λ x. IsSomeAnd (Some y) (P x)) (held k) e m))
