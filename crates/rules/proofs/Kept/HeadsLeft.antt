-- The heads that removal leaves (01, "Removal").
use mathlib.Core.Path.{◌≡◌, refl, sym, ap, ◌∙◌}
use mathlib.Core.Logic.{◌≢◌, ◌⊎◌, inl, inr}
use mathlib.Core.Bool.{Bool, true, false, not, ◌&&◌}
use mathlib.Core.List.{List}
use Rattle.std.specs.Prelude.{Option, None, is_some}
use Prim.Native.Nat.{ℕ, ◌<◌}
use native.Mathlib.Omega.{arith}
use lib.Dec.{eqb}
use borrow.Author.Tests.{eqb-true, eq-eqb, not-true}
use Rattle.rules.specs.Common.{is_at, lowest}
use Rattle.rules.specs.Records.{NONE, Blocks, Heads, slots_of, used, empty_head, head_at}
use Rattle.rules.specs.BlockTable.{childless, children}
use Rattle.rules.specs.Caches.{slot_of_head}
use Rattle.rules.specs.Removal.{listed, head_freed, takes_over, heir, drop_heads}
use Rattle.rules.specs.Promises.{children_of}
use Rattle.rules.specs.declared.Head.{Head}
use Rattle.rules.proofs.Splits.{split, less?, option?, not_some, and-true, and_both, true-not-false}
use Rattle.rules.proofs.Search.{lowest-holds, lowest-found}
use Rattle.rules.proofs.Kept.Counting.{zero?}
use Rattle.rules.proofs.Kept.Table.{parent_of, is_occupied, is_active, occupied-real}
use Rattle.rules.proofs.Kept.Seats.{room, tip_of, in_use, use-lt, use-ne, ne-use, head-slots, Blanks, Room}
use Rattle.rules.proofs.Kept.Frame.{Apart, Frame, All, head-some, head-none}
use Rattle.rules.proofs.Kept.Sweep.{kids-are}
use Rattle.rules.proofs.Kept.Drop.{Cell, moved, emptied, left, Dropped, dropped}
use Rattle.rules.proofs.Kept.Left.{Left}

-- heads that fit the blocks u
pub record HeadsOf (u : Blocks) (h : Heads) : Type 0 where
  pub roomy : Room h
  pub blanks : Blanks h
  pub tips : (k : ℕ) → in_use h k ≡ true → (is_occupied u (tip_of h k) ≡ true) × (children_of u (tip_of h k) ≡ 0)
  pub apart : Apart h
  pub covered : (i : ℕ) → is_occupied u i ≡ true → is_active u i ≡ false → children_of u i ≡ 0 → (k : ℕ) × (in_use h k ≡ true) × (tip_of h k ≡ i)

module _ (t u : Blocks) (h : Heads) (active_head r : ℕ) (deleted : List ℕ) (f : Frame t h active_head All) (lf : Left t u h active_head r deleted) where
  abbrev p : ℕ
  p = parent_of t r

  abbrev takes-over : Bool
  takes-over = takes_over u.parents u.sequences h.tips p

  abbrev moving : Option ℕ
  moving = heir u.parents u.sequences h.tips deleted p

  abbrev pub h2 : Heads
  h2 = drop_heads deleted moving p h

  over : takes-over ≡ true → (is_occupied u p ≡ true) × (slot_of_head h.tips p ≡ None) × (children_of u p ≡ 0)
  unfolding takes_over childless
  over e =
      let c = and-true (is_occupied u p && not (is_some (slot_of_head h.tips p))) (eqb (children u.parents u.sequences p) 0) e in
      let d = and-true (is_occupied u p) (not (is_some (slot_of_head h.tips p))) c.0 in (
        d.0,
        not_some (slot_of_head h.tips p) (not-true (is_some (slot_of_head h.tips p)) d.1),
        sym (kids-are u lf.shape p) ∙ eqb-true (children u.parents u.sequences p) 0 c.1,
      )

  takes : is_occupied u p ≡ true → slot_of_head h.tips p ≡ None → children_of u p ≡ 0 → takes-over ≡ true
  unfolding takes_over childless
  takes o n z = rw (o, n, kids-are u lf.shape p, z) refl

  heir-yes : takes-over ≡ true → moving ≡ lowest (head_freed h.tips deleted) (slots_of h.tips)
  unfolding heir
  heir-yes e = rw e

  heir-no : takes-over ≡ false → moving ≡ None
  unfolding heir
  heir-no e = rw e

  heir-some : (k : ℕ) → is_at moving k ≡ true → (takes-over ≡ true) × (head_freed h.tips deleted k ≡ true)
  heir-some k a = split takes-over
      (λ e. option? (lowest (head_freed h.tips deleted) (slots_of h.tips))
      (λ n. true-not-false {b = is_at moving k} a (rw (heir-yes e, n) refl))
      (λ i n.
      let q : i ≡ k = eqb-true i k (rw (heir-yes e, n) at a) in
      (e, rw (← q) (lowest-holds (head_freed h.tips deleted) (slots_of h.tips) i n).1)))
      (λ e. true-not-false {b = is_at moving k} a (rw (heir-no e) refl))

  freed-tip : (k : ℕ) → head_freed h.tips deleted k ≡ true → (in_use h k ≡ true) × (listed deleted (tip_of h k) ≡ true)
  unfolding head_freed
  freed-tip k e = let c = and-true (in_use h k) (listed deleted (tip_of h k)) e in (c.0, c.1)

  kept-tip : (k : ℕ) → head_freed h.tips deleted k ≡ false → in_use h k ≡ true → listed deleted (tip_of h k) ≡ false
  unfolding head_freed
  kept-tip k e uk = rw uk at e

  dr : Dropped deleted moving p (slots_of h.tips) h h2
  unfolding drop_heads
  dr = dropped deleted moving p (slots_of h.tips) h

  cell : (k : ℕ) → k < room h → Cell deleted moving p h h2 k
  cell k n = dr.cells f.roomy k (rw (head-slots h f.roomy) n) n

  tip_same : (k : ℕ) → head_at h2 k ≡ head_at h k → tip_of h2 k ≡ tip_of h k
  unfolding head_at
  tip_same k e = ap (λ (x : Head). x.tip.0) e

  tip-none : (k : ℕ) → head_at h2 k ≡ empty_head → tip_of h2 k ≡ NONE
  unfolding head_at
  tip-none k e = ap (λ (x : Head). x.tip.0) e

  -- a head in use afterwards has moved, or stands where it stood on a block that is left
  abbrev Fate : ℕ → Type 0
  Fate i = ((is_at moving i ≡ true) × (tip_of h2 i ≡ p)) ⊎ ((in_use h i ≡ true) × (tip_of h2 i ≡ tip_of h i) × (listed deleted (tip_of h i) ≡ false))

  fate : (k : ℕ) → in_use h2 k ≡ true → Fate k
  fate k uk = go (cell k (let n = use-lt h2 k uk in let e = dr.rooms in omega arith))
    where
      go : Cell deleted moving p h h2 k → Fate k
      go (moved a b) = inl (a, b)
      go (emptied a b c) = absurd (use-ne h2 k uk (tip-none k c))
      go (left a b c) =
          let q = tip_same k c in
          let o : in_use h k ≡ true = ne-use h k (λ e. use-ne h2 k uk (q ∙ e)) in
          inr (o, q, kept-tip k b o)

  -- a head on a block that is left stays
  stands : (k : ℕ) → in_use h k ≡ true → listed deleted (tip_of h k) ≡ false → (in_use h2 k ≡ true) × (tip_of h2 k ≡ tip_of h k)
  stands k uk m = go (cell k (use-lt h k uk))
    where
      not-freed : head_freed h.tips deleted k ≡ true → (in_use h2 k ≡ true) × (tip_of h2 k ≡ tip_of h k)
      not-freed e = true-not-false {b = listed deleted (tip_of h k)} (freed-tip k e).1 m

      go : Cell deleted moving p h h2 k → (in_use h2 k ≡ true) × (tip_of h2 k ≡ tip_of h k)
      go (moved a b) = not-freed (heir-some k a).1
      go (emptied a b c) = not-freed b
      go (left a b c) = let q = tip_same k c in (ne-use h2 k (rw q (use-ne h k uk)), q)

  tips-left : (k : ℕ) → in_use h2 k ≡ true → (is_occupied u (tip_of h2 k) ≡ true) × (children_of u (tip_of h2 k) ≡ 0)
  tips-left k uk = elim (fate k uk) [
    | inl c ↦ let o = over (heir-some k c.0).0 in rw c.1 (o.0, o.2)
    | inr c ↦
        let q = f.tips k c.0 in
        let n = lf.fewer (tip_of h k) in
        let z = q.1 in
        rw c.1 ((lf.stay (tip_of h k) c.2).hold ∙ q.0, omega arith)
  ]

  -- the heir stands on the root's parent
  heir-there : takes-over ≡ true → (k : ℕ) × (in_use h2 k ≡ true) × (tip_of h2 k ≡ p)
  unfolding head_freed
  heir-there e = option? (lowest (head_freed h.tips deleted) (slots_of h.tips))
      (λ n.
      let (k, uk, m) = lf.some_lost in
      absurd (lowest-found (head_freed h.tips deleted) (slots_of h.tips) k (rw (head-slots h f.roomy) (use-lt h k uk))
      (and_both (in_use h k) (listed deleted (tip_of h k)) uk m) n))
      (λ k n.
      let a : is_at moving k ≡ true = rw (heir-yes e, n) (eq-eqb k k refl) in
      let b = lowest-holds (head_freed h.tips deleted) (slots_of h.tips) k n in
      go k a (cell k (rw (head-slots h f.roomy) at b.0)))
    where
      go : (k : ℕ) → is_at moving k ≡ true → Cell deleted moving p h h2 k → (k : ℕ) × (in_use h2 k ≡ true) × (tip_of h2 k ≡ p)
      go k a (moved b c) = (k, ne-use h2 k (rw c (occupied-real u p lf.shape (over e).0)), c)
      go k a (emptied b c d) = true-not-false {b = is_at moving k} a b
      go k a (left b c d) = true-not-false {b = is_at moving k} a b

  covered-left : (i : ℕ) → is_occupied u i ≡ true → is_active u i ≡ false → children_of u i ≡ 0 → (k : ℕ) × (in_use h2 k ≡ true) × (tip_of h2 k ≡ i)
  covered-left i o a z =
      let (m, oi) = lf.there i o in
      zero? (children_of t i)
      (λ c.
      let (k, uk, e) = f.covered i tt oi (sym (lf.stay i m).chain ∙ a) c in
      let q = stands k uk (rw e m) in
      (k, q.0, q.1 ∙ e))
      (λ n c.
      let e : parent_of t r ≡ i = lf.lost_last i o z (omega arith) in
      let none-there : slot_of_head h.tips p ≡ None = option? (slot_of_head h.tips p)
      (λ n. n)
      (λ k q. let b = head-some h p k q in let y = rw (b.1, e) at (f.tips k b.0).1 in absurd (omega arith)) in
      let (k, uk, q) = heir-there (takes (rw e o) none-there (rw e z)) in
      (k, uk, q ∙ e))

  apart-left : (j k : ℕ) → in_use h2 j ≡ true → in_use h2 k ≡ true → tip_of h2 j ≡ tip_of h2 k → j ≡ k
  apart-left j k uj uk q = go (fate j uj) (fate k uk)
    where
      bare : (i : ℕ) → takes-over ≡ true → in_use h i ≡ true → tip_of h i ≢ p
      bare i e ui = head-none h p i f.roomy (over e).1 ui

      go : Fate j → Fate k → j ≡ k
      go (inl a) (inl b) = one a.0 b.0
        where
          one : is_at moving j ≡ true → is_at moving k ≡ true → j ≡ k
          one x y = option? moving
              (λ n. true-not-false {b = is_at moving j} x (rw n refl))
              (λ i n. sym (eqb-true i j (rw n at x)) ∙ eqb-true i k (rw n at y))
      go (inl a) (inr b) = absurd (bare k (heir-some j a.0).0 b.0 (sym b.1 ∙ sym q ∙ a.1))
      go (inr a) (inl b) = absurd (bare j (heir-some k b.0).0 a.0 (sym a.1 ∙ q ∙ b.1))
      go (inr a) (inr b) = f.apart j k a.0 b.0 (sym a.1 ∙ q ∙ b.1)

  blanks-left : Blanks h2
  unfolding used
  blanks-left k e = less? k (room h)
      (λ n. go (cell k n))
      (λ n. same (dr.later k (let c = head-slots h f.roomy in omega arith)))
    where
      same : head_at h2 k ≡ head_at h k → head_at h2 k ≡ empty_head
      same c = let q = tip_same k c in c ∙ f.blanks k (rw q at e)

      go : Cell deleted moving p h h2 k → head_at h2 k ≡ empty_head
      go (moved a b) = true-not-false {b = in_use h2 k} (ne-use h2 k (rw b (occupied-real u p lf.shape (over (heir-some k a).0).0))) e
      go (emptied a b c) = c
      go (left a b c) = same c

  pub heads-left : HeadsOf u h2
  heads-left = record { roomy = dr.roomy f.roomy; blanks = blanks-left; tips = tips-left; apart = apart-left; covered = covered-left }
