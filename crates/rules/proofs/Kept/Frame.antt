-- What is kept of both tables; C says of which childless blocks a head is asked.
use mathlib.Core.Path.{◌≡◌, refl, sym, ◌∙◌}
use mathlib.Core.Logic.{◌≢◌, ◌⊎◌}
use mathlib.Core.Bool.{true, false, ◌&&◌}
use Rattle.std.specs.Prelude.{None, Some}
use Prim.Native.Nat.{ℕ, ◌<◌}
use lib.Dec.{eqb}
use borrow.Author.Tests.{eqb-true, eq-eqb}
use Rattle.rules.specs.Records.{NONE, Blocks, Heads, slots_of, head_at}
use Rattle.rules.specs.Anchor.{Anchor, connection, tail}
use Rattle.rules.specs.Caches.{slot_of_head}
use Rattle.rules.specs.Promises.{children_of}
use Rattle.rules.specs.declared.Head.{Head}
use Rattle.rules.proofs.Splits.{same?, and-true, and_both, true-not-false}
use Rattle.rules.proofs.Search.{lowest-holds, lowest-misses}
use Rattle.rules.proofs.Kept.Table.{parent_of, is_occupied, is_active, Kept, occupied-real}
use Rattle.rules.proofs.Kept.Slots.{Voids}
use Rattle.rules.proofs.Kept.Ends.{Ends}
use Rattle.rules.proofs.Kept.Seats.{room, tip_of, in_use, kept, kept_by, Room, use-lt, head-slots, Seat, seat-tip, seat-use, seat-kept, seat-taken, Blanks, seat-blanks}

abbrev pub Apart : Heads → Type 0
Apart h = (s r : ℕ) → in_use h s ≡ true → in_use h r ≡ true → tip_of h s ≡ tip_of h r → s ≡ r

-- an active block that is not the active_head has an active child
abbrev pub Chained : Blocks → ℕ → Type 0
Chained t active_head = (i : ℕ) → is_occupied t i ≡ true → is_active t i ≡ true → i ≢ active_head → (c : ℕ) × (is_occupied t c ≡ true) × (is_active t c ≡ true) × (parent_of t c ≡ i)

-- all but the anchors
pub record Frame (t : Blocks) (h : Heads) (active_head : ℕ) (C : ℕ → Type 0) : Type 0 where
  pub counts : Kept t
  pub voids : Voids t
  pub roomy : Room h
  pub blanks : Blanks h
  pub tips : (s : ℕ) → in_use h s ≡ true → (is_occupied t (tip_of h s) ≡ true) × (children_of t (tip_of h s) ≡ 0)
  pub apart : Apart h
  pub covered : (i : ℕ) → C i → is_occupied t i ≡ true → is_active t i ≡ false → children_of t i ≡ 0 → (s : ℕ) × (in_use h s ≡ true) × (tip_of h s ≡ i)
  pub chained : Chained t active_head

pub record Good (t : Blocks) (h : Heads) (active_head : ℕ) (C : ℕ → Type 0) : Type 0 where
  pub frame : Frame t h active_head C
  pub anchored : (s : ℕ) → in_use h s ≡ true → Ends t (tip_of h s) (kept h s)

-- a stored head whose tail has got a parent
abbrev pub Late : Blocks → Head → Type 0
Late t head = (i : ℕ) × (kept_by head ≡ tail i) × (is_occupied t i ≡ true) × (parent_of t i ≢ NONE)

-- a head's anchor is right, or something else is true of the head
abbrev pub Apt : Blocks → Heads → (Head → Type 0) → Type 0
Apt t h need = (s : ℕ) → in_use h s ≡ true → Ends t (tip_of h s) (kept h s) ⊎ need (head_at h s)

-- every childless block off the chain has a head
abbrev pub All : ℕ → Type 0
All i = Unit {0}

pub anchor? {ℓ} : {A : Type ℓ} (a : Anchor) → ((i : ℕ) → a ≡ connection i → A) → ((i : ℕ) → a ≡ tail i → A) → A
anchor? (connection i) f g = f i refl
anchor? (tail i) f g = g i refl

-- ---- the lowest head of a block

module _ (h : Heads) (x s : ℕ) where
  pub head-some : slot_of_head h.tips x ≡ Some s → (in_use h s ≡ true) × (tip_of h s ≡ x)
  unfolding slot_of_head
  head-some e =
      let b = lowest-holds (λ k. in_use h k && eqb (tip_of h k) x) (slots_of h.tips) s e in
      let c = and-true (in_use h s) (eqb (tip_of h s) x) b.1 in
      (c.0, eqb-true (tip_of h s) x c.1)

  pub head-none : Room h → slot_of_head h.tips x ≡ None → in_use h s ≡ true → tip_of h s ≢ x
  unfolding slot_of_head
  head-none r e u q = true-not-false {b = in_use h s && eqb (tip_of h s) x}
      (and_both (in_use h s) (eqb (tip_of h s) x) u (eq-eqb (tip_of h s) x q))
      (lowest-misses (λ k. in_use h k && eqb (tip_of h k) x) (slots_of h.tips) s e (rw (head-slots h r) (use-lt h s u)))

-- ---- one head changes

-- the tips stay apart where no other head has x
pub seat-apart : (h u : Heads) (k x : ℕ) → Seat h u k x → Apart h → ((r : ℕ) → r ≢ k → in_use h r ≡ true → tip_of h r ≢ x) → k < room h → Apart u
seat-apart h u k x s apart bare l r v ur uv e = same? r k
    (λ qr. same? v k
    (λ qv. qr ∙ sym qv)
    (λ nv. absurd (bare v nv (sym (seat-use h u k x s v nv) ∙ uv) (sym (seat-tip h u k x s v nv) ∙ sym e ∙ (rw qr (s.here l))))))
    (λ nr. same? v k
    (λ qv. absurd (bare r nr (sym (seat-use h u k x s r nr) ∙ ur) (sym (seat-tip h u k x s r nr) ∙ e ∙ (rw qv (s.here l)))))
    (λ nv. apart r v (sym (seat-use h u k x s r nr) ∙ ur) (sym (seat-use h u k x s v nv) ∙ uv) (sym (seat-tip h u k x s r nr) ∙ e ∙ seat-tip h u k x s v nv)))

module _ (t : Blocks) (h u : Heads) (active_head k x : ℕ) (C D : ℕ → Type 0) (g : Frame t h active_head C) (s : Seat h u k x) (l : k < room h)
    (ox : is_occupied t x ≡ true) (zx : children_of t x ≡ 0) (bare : (r : ℕ) → r ≢ k → in_use h r ≡ true → tip_of h r ≢ x)
    (need : (i : ℕ) → D i → i ≢ x → C i × (in_use h k ≡ true → tip_of h k ≢ i)) where
  pub seat-frame : Frame t u active_head D
  seat-frame =
      let here : in_use u k ≡ true = seat-taken h u k x s l (occupied-real t x g.counts.shape ox) in
      record {
        counts = g.counts;
        voids = g.voids;
        roomy = s.roomy g.roomy;
        blanks = seat-blanks h u k x s here g.blanks;
        tips = λ r ur. same? r k
            (λ q. rw (q, s.here l) (ox, zx))
            (λ ne. rw (seat-tip h u k x s r ne) (g.tips r (sym (seat-use h u k x s r ne) ∙ ur)));
        apart = seat-apart h u k x s g.apart bare l;
        covered = λ i d o a z. same? i x
            (λ q. (k, here, rw (s.here l) (sym q)))
            (λ ne.
            let n = need i d ne in
            let (r, ur, e) = g.covered i n.0 o a z in
            let nk : r ≢ k = λ q. n.1 (rw q at ur) (rw q at e) in
            (r, rw (seat-use h u k x s r nk) ur, rw (seat-tip h u k x s r nk) e));
        chained = g.chained;
      }

  -- the new head's anchor is right, and the others' as they were
  pub seat-good : ((r : ℕ) → r ≢ k → in_use h r ≡ true → Ends t (tip_of h r) (kept h r)) → Ends t x (kept u k) → Good t u active_head D
  seat-good right new = record {
    frame = seat-frame;
    anchored = λ r ur. same? r k
        (λ q. rw (q, s.here l) new)
        (λ ne. rw (seat-tip h u k x s r ne, seat-kept h u k x s r ne) (right r ne (sym (seat-use h u k x s r ne) ∙ ur)));
  }
