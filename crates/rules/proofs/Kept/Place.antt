-- A head is inserted for a childless block that has none: room is made where there is none, and both tables are kept.
use mathlib.Core.Path.{◌≡◌, refl, sym, ap, ◌∙◌}
use mathlib.Core.Logic.{◌≢◌}
use mathlib.Core.Bool.{Bool, true, false, not}
use mathlib.Core.List.{List}
use Rattle.std.specs.Prelude.{None, Some}
use Prim.Native.Nat.{ℕ, ◌<◌}
use borrow.Author.Tests.{not-true, not-false}
use Rattle.rules.specs.Records.{NONE, Blocks, Heads, Tables, slots_of, put_head, clear}
use Rattle.rules.specs.Caches.{recompute_head}
use Rattle.rules.specs.Eviction.{victim, evict_from}
use Rattle.rules.specs.Admission.{first_empty, new_head, seat_head, make_room, insert_head}
use Rattle.rules.specs.Promises.{children_of, VictimIfFull}
use Rattle.rules.proofs.Splits.{same?, option?, true-not-false}
use Rattle.rules.proofs.Search.{lowest-holds, lowest-misses}
use Rattle.rules.proofs.Kept.Bytes.{zero-length}
use Rattle.rules.proofs.Kept.Table.{size, is_occupied, is_active, Shape}
use Rattle.rules.proofs.Kept.Ends.{located, anchor-ends}
use Rattle.rules.proofs.Kept.Freed.{Freed}
use Rattle.rules.proofs.Kept.Steady.{Steady, steady-refl, steady-trans, freed-leaf, freed-back, freed-steady, freed-size}
use Rattle.rules.proofs.Kept.Seats.{room, tip_of, in_use, kept, Room, use-lt, head-slots, Seat, seat-tip, seat-use, put-seat, clear-seat, clear-here, clear-other}
use Rattle.rules.proofs.Kept.Frame.{Good, seat-good}
use Rattle.rules.proofs.Kept.EvictHead.{trace, evict-good, victim-some, victim-there, evict-one}
use Rattle.rules.proofs.Kept.Cached.{recompute-seat, recompute-kept}

-- ---- the caches of a head that has got a tip

module _ (t : Blocks) (h u : Heads) (k x arriving : ℕ) (previous : List ℕ) (s : Seat h u k x) where
  pub again-seat : Seat h (recompute_head t u k arriving previous) k x
  again-seat = let b = recompute-seat t u k arriving previous in
      record {
        roomy = λ r. b.roomy (s.roomy r);
        rooms = b.rooms ∙ s.rooms;
        here = λ l. b.here (rw s.rooms l) ∙ s.here l;
        rest = λ r ne. b.rest r ne ∙ s.rest r ne;
      }

  pub again_kept : Room h → k < room h → kept (recompute_head t u k arriving previous) k ≡ located t x
  again_kept r l = recompute-kept t u k arriving previous (s.roomy r) (rw s.rooms l) ∙ ap (located t) (s.here l)

-- ---- the lowest empty head

module _ (h : Heads) (k : ℕ) (r : Room h) where
  pub empty-some : first_empty h.tips ≡ Some k → (k < room h) × (in_use h k ≡ false)
  unfolding first_empty
  empty-some e =
      let b = lowest-holds (λ s. not (in_use h s)) (slots_of h.tips) k e in
      (rw (head-slots h r) at b.0, not-true (in_use h k) b.1)

  pub empty-none : first_empty h.tips ≡ None → k < room h → in_use h k ≡ true
  unfolding first_empty
  empty-none e l = not-false (in_use h k) (lowest-misses (λ s. not (in_use h s)) (slots_of h.tips) k e (rw (head-slots h r) l))

-- ---- a head for x

-- x waits for its head
pub record New (t : Blocks) (h : Heads) (active_head x : ℕ) (b : Bool) (C : ℕ → Type 0) : Type 0 where
  pub good : Good t h active_head C
  pub home : is_occupied t x ≡ true
  pub fresh : is_active t x ≡ b
  pub bottom : children_of t x ≡ 0
  pub bare : (r : ℕ) → in_use h r ≡ true → tip_of h r ≢ x

-- w is left of t and h
pub record Done (t : Blocks) (h : Heads) (w : Tables) (active_head x : ℕ) (b : Bool) (D : ℕ → Type 0) : Type 1 where
  pub good : Good w.blocks w.heads active_head D
  pub home : is_occupied w.blocks x ≡ true
  pub fresh : is_active w.blocks x ≡ b
  pub steady : Steady NONE t w.blocks
  pub sizes : size w.blocks ≡ size t
  -- the heads are the old ones and x's
  pub from : (P : ℕ → Type 0) → P x → ((r : ℕ) → in_use h r ≡ true → P (tip_of h r)) → (r : ℕ) → in_use w.heads r ≡ true → P (tip_of w.heads r)

module _ (t : Blocks) (h : Heads) (active_head x arriving : ℕ) (previous : List ℕ) (arrival : ℕ) (b : Bool) (C D : ℕ → Type 0) (cd : (i : ℕ) → D i → i ≢ x → C i) (n : New t h active_head x b C) where
  abbrev seated : ℕ → Heads
  seated k = recompute_head t (put_head h k (new_head x arrival)) k arriving previous

  put-done : (k : ℕ) → k < room h → in_use h k ≡ false → Done t h (record { blocks = t; heads = seated k }) active_head x b D
  put-done k l free =
      let r = n.good.frame.roomy in
      let p = put-seat h k (new_head x arrival) zero-length in
      let s = again-seat t h (put_head h k (new_head x arrival)) k x arriving previous p in
      let e = again_kept t h (put_head h k (new_head x arrival)) k x arriving previous p r l in
      let f = n.good.frame in
      record {
        good = seat-good t h (seated k) active_head k x C D f s l n.home n.bottom (λ v _ uv. n.bare v uv)
            (λ i d ne. (cd i d ne, λ u. true-not-false {b = in_use h k} u free))
            (λ v _ uv. n.good.anchored v uv)
            (rw e (anchor-ends t x f.counts.shape f.counts.linked n.home));
        home = n.home;
        fresh = n.fresh;
        steady = steady-refl NONE t;
        sizes = refl;
        from = λ P px old v uv. same? v k
            (λ q. rw (q, s.here l) px)
            (λ ne. rw (seat-tip h (seated k) k x s v ne) (old v (sym (seat-use h (seated k) k x s v ne) ∙ uv)));
      }

  seat-some : (k : ℕ) → first_empty h.tips ≡ Some k → seat_head (record { blocks = t; heads = h }) x arriving previous arrival ≡ record { blocks = t; heads = seated k }
  unfolding seat_head
  seat-some k e = rw (e, seat_head)

  pub seat-done : (v : ℕ) → v < room h → in_use h v ≡ false → Done t h (seat_head (record { blocks = t; heads = h }) x arriving previous arrival) active_head x b D
  seat-done v l free = option? (first_empty h.tips)
      (λ c. true-not-false {b = in_use h v} (empty-none h v n.good.frame.roomy c l) free)
      (λ k c. let p = empty-some h k n.good.frame.roomy c in rw (seat-some k c) (put-done k p.0 p.1))

  -- the tables after the victim v has gone
  after : (v : ℕ) → in_use h v ≡ true → tip_of h v ≢ active_head → New (evict_from (size t) t (tip_of h v)) (clear h v) active_head x b C
  after v uv nv =
      let u : Blocks = evict_from (size t) t (tip_of h v) in
      let tr = trace t h active_head C n.good v uv nv in
      let l = freed-leaf t (tip_of h v) u tr x (λ q. n.bare v uv (sym q)) n.home n.bottom in
      record {
        good = evict-good t h active_head C n.good v uv nv;
        home = l.0;
        fresh = (freed-back t (tip_of h v) u tr x l.0).3 ∙ n.fresh;
        bottom = l.1;
        bare = λ r ur. let c = clear-other h v r ur in rw (seat-tip h (clear h v) v NONE (clear-seat h v) r c.0) (n.bare r c.1);
      }

-- the walk before the empty slot is taken
done-after : (t u : Blocks) (h : Heads) (w : Tables) (active_head x v : ℕ) (b : Bool) (D : ℕ → Type 0) → Freed t (tip_of h v) u
    → Done u (clear h v) w active_head x b D → Done t h w active_head x b D
done-after t u h w active_head x v b D tr d = record {
  good = d.good;
  home = d.home;
  fresh = d.fresh;
  steady = steady-trans NONE t u w.blocks (freed-steady NONE t (tip_of h v) u tr) d.steady;
  sizes = d.sizes ∙ freed-size t (tip_of h v) u tr;
  from = λ P px old r ur. d.from P px (λ s us. let c = clear-other h v s us in rw (seat-tip h (clear h v) v NONE (clear-seat h v) s c.0) (old s c.1)) r ur;
}

-- ---- the rule

room-there : (t : Blocks) (h : Heads) (active_head k : ℕ) → first_empty h.tips ≡ Some k → make_room (record { blocks = t; heads = h }) active_head ≡ record { blocks = t; heads = h }
unfolding make_room
room-there t h active_head k e = rw (e, make_room)

room-made : (t : Blocks) (h : Heads) (active_head v : ℕ) → Shape t → first_empty h.tips ≡ None → victim t.hashes t.sequences h.tips active_head ≡ Some v
    → make_room (record { blocks = t; heads = h }) active_head ≡ record { blocks = evict_from (size t) t (tip_of h v); heads = clear h v }
unfolding make_room
room-made t h active_head v s e f = rw (e, make_room) (evict-one t h active_head v s f)

pub full-victim : (t : Blocks) (h : Heads) (active_head : ℕ) (C : ℕ → Type 0) → Good t h active_head C → VictimIfFull (record { blocks = t; heads = h }) active_head
full-victim t h active_head C g c = let f = g.frame in
    victim-there t h active_head f.roomy f.apart (λ r u. (f.tips r u).0) (λ r l. empty-none h r f.roomy c l)

pub insert-done : (t : Blocks) (h : Heads) (active_head x arriving : ℕ) (previous : List ℕ) (arrival : ℕ) (b : Bool) (C D : ℕ → Type 0) (cd : (i : ℕ) → D i → i ≢ x → C i)
    → New t h active_head x b C → Done t h (insert_head (record { blocks = t; heads = h }) x arriving previous arrival active_head) active_head x b D
unfolding insert_head
insert-done t h active_head x arriving previous arrival b C D cd n =
    let f = n.good.frame in
    let s = f.counts.shape in
    option? (first_empty h.tips)
    (λ c. option? (victim t.hashes t.sequences h.tips active_head)
    (λ e. absurd (full-victim t h active_head C n.good c e))
    (λ v e.
    let w = victim-some t.hashes t.sequences h.tips active_head v e in
    let u : Blocks = evict_from (size t) t (tip_of h v) in
    rw (room-made t h active_head v s c e) (done-after t u h (seat_head (record { blocks = u; heads = clear h v }) x arriving previous arrival) active_head x v b D
    (trace t h active_head C n.good v w.0 w.1)
    (seat-done u (clear h v) active_head x arriving previous arrival b C D cd (after t h active_head x arriving previous arrival b C D cd n v w.0 w.1)
    v (rw (clear-seat h v).rooms (use-lt h v w.0)) (clear-here h v)))))
    (λ k c.
    let p = empty-some h k f.roomy c in
    rw (room-there t h active_head k c) (seat-done t h active_head x arriving previous arrival b C D cd n k p.0 p.1))
