-- Admission as a whole (01, "Admission").
use mathlib.Core.Path.{◌≡◌, refl, ◌∙◌}
use mathlib.Core.Logic.{◌≢◌, inl}
use mathlib.Core.Bool.{true, false}
use mathlib.Core.List.{List}
use Rattle.std.specs.Prelude.{Option, None, Some}
use Prim.Native.Nat.{ℕ, ◌<◌}
use native.Mathlib.Omega.{arith}
use lib.ListN.{set}
use Rattle.rules.specs.Common.{in_order}
use Rattle.rules.specs.Records.{NONE, Blocks, Heads, Tables, slots_of, with_tips, with_arrivals}
use Rattle.rules.specs.BlockTable.{adjust, insert_at, max_count}
use Rattle.rules.specs.Caches.{slot_of_head, recompute_head}
use Rattle.rules.specs.Admission.{one_more, insert_head, move_up, fork, place_head, link_late, link_tails, recompute_missing, resolve_tails, admitted, refresh_tails}
use Rattle.rules.specs.Calls.{new_block, slot_or_none}
use Rattle.rules.specs.Promises.{children_of}
use Rattle.rules.proofs.Splits.{option?, true-not-false}
use Rattle.rules.proofs.Kept.Table.{seq_of, count_of, hash_of, is_occupied, is_active, set_count, Kept, occupied-real}
use Rattle.rules.proofs.Kept.Slots.{but-occupied, count-but}
use Rattle.rules.proofs.Kept.Steady.{Steady, steady-refl, steady-trans, steady-any, but-steady}
use Rattle.rules.proofs.Kept.Seats.{tip_of, in_use, use-lt, Seat}
use Rattle.rules.proofs.Kept.Frame.{Good, All, head-some}
use Rattle.rules.proofs.Kept.Leaves.{children-bound}
use Rattle.rules.proofs.Kept.Place.{New, insert-done, again-seat, again_kept}
use Rattle.rules.proofs.Kept.Insert.{insert, Fits, insert-but, insert-seq, insert-hash, insert-occupied, insert-chain, insert-kids, insert-steady, insert-is, parent-not-self}
use Rattle.rules.proofs.Kept.Arrive.{raise, raised, root-good, extend-good, fork-good}
use Rattle.rules.proofs.Kept.LinkLoop.{all_keep}
use Rattle.rules.proofs.Kept.Refresh.{refreshed}
use Rattle.rules.proofs.Kept.Cached.{tip-seat, arrival-seat}

-- the new block of u has its head
pub record Placed (u : Blocks) (active_head x : ℕ) (w : Tables) : Type 0 where
  pub good : Good w.blocks w.heads active_head All
  pub home : is_occupied w.blocks x ≡ true
  pub fresh : is_active w.blocks x ≡ false
  pub steady : Steady NONE u w.blocks

-- the head that moves up
move-seat : (t : Blocks) (h : Heads) (k x arrival : ℕ) → Seat h (with_arrivals (with_tips h (set h.tips k x)) (set h.arrivals k arrival)) k x
move-seat t h k x arrival =
    let a = tip-seat h k x in
    let b = arrival-seat (with_tips h (set h.tips k x)) k arrival in
    record {
      roomy = λ r. b.roomy (a.roomy r);
      rooms = a.rooms;
      here = a.here;
      rest = λ r ne. b.rest r ne ∙ a.rest r ne;
    }

module _ (t : Blocks) (h : Heads) (active_head x q : ℕ) (hash : List ℕ) (parent : Option ℕ) (previous : List ℕ) (arrival : ℕ) (g : Good t h active_head All) where
  abbrev p : ℕ
  p = slot_or_none parent

  abbrev u : Blocks
  u = insert t x q hash p

  module _ (f : Fits t x q hash p) where
    k : Kept t
    k = g.frame.counts

    bare : (r : ℕ) → in_use h r ≡ true → tip_of h r ≢ x
    bare r ur e = true-not-false {b = is_occupied t x} (rw e at (g.frame.tips r ur).0) f.free

    seated : (v : Blocks) → New v h active_head x false (λ i. i ≢ x) → Steady NONE u v → Placed u active_head x (insert_head (record { blocks = v; heads = h }) x x previous arrival active_head)
    seated v n y =
        let d = insert-done v h active_head x x previous arrival false (λ i. i ≢ x) All (λ _ _ ne. ne) n in
        record { good = d.good; home = d.home; fresh = d.fresh; steady = steady-trans NONE u v (insert_head (record { blocks = v; heads = h }) x x previous arrival active_head).blocks y d.steady }

    place-root : p ≡ NONE → Placed u active_head x (insert_head (record { blocks = u; heads = h }) x x previous arrival active_head)
    place-root e = seated _ (record {
      good = root-good t h active_head x q hash p g f e;
      home = insert-occupied t x q hash p k f;
      fresh = insert-chain t x q hash p k f;
      bottom = insert-kids t x q hash p k f;
      bare = bare;
    }) (steady-refl NONE u)

    module _ (op : is_occupied t p ≡ true) where
      low : is_active t p ≡ false → count_of t p < max_count
      low a = omega (arith, k.counted p op a, g.frame.roomy.few, children-bound t h active_head All g.frame (λ _. tt) p (occupied-real t p k.shape op))

      ou : is_occupied u p ≡ true
      ou = but-occupied t u x (insert-but t x q hash p k f) p (parent-not-self t x q hash p k f) ∙ op

      -- the parent has risen
      abbrev v : Blocks
      v = (one_more (record { blocks = u; heads = h }) p).blocks

      pub risen : slot_of_head h.tips p ≡ None → Good v h active_head (λ i. i ≢ x)
      risen n = rw (raised u p ou) (fork-good t h active_head x q hash p g f op n low)

      risen-steady : Steady NONE u v
      risen-steady = rw (raised u p ou) (but-steady NONE u (set_count u p (raise (count_of u p))) p (count-but u p (raise (count_of u p))) refl refl refl refl (λ _. refl))

      place-fork : slot_of_head h.tips p ≡ None → Placed u active_head x (fork (record { blocks = u; heads = h }) x p previous arrival active_head)
      unfolding fork adjust children_of
      place-fork n = seated _ (record {
        good = risen n;
        home = insert-occupied t x q hash p k f;
        fresh = insert-chain t x q hash p k f;
        bottom = insert-kids t x q hash p k f;
        bare = bare;
      }) risen-steady

      place_up : (s : ℕ) → slot_of_head h.tips p ≡ Some s → Placed u active_head x (move_up (record { blocks = u; heads = h }) s x previous arrival)
      unfolding move_up
      place_up s e =
          let w = head-some h p s e in
          let m = move-seat u h s x arrival in
          let h1 = with_arrivals (with_tips h (set h.tips s x)) (set h.arrivals s arrival) in
          record {
            good = extend-good t h active_head x q hash p g f s w.0 w.1 (recompute_head u h1 s x previous) (again-seat u h h1 s x x previous m)
                (again_kept u h h1 s x x previous m g.frame.roomy (use-lt h s w.0));
            home = insert-occupied t x q hash p k f;
            fresh = insert-chain t x q hash p k f;
            steady = steady-refl NONE u;
          }

place-done : (t : Blocks) (h : Heads) (active_head x q : ℕ) (hash : List ℕ) (parent : Option ℕ) (previous : List ℕ) (arrival : ℕ) → Good t h active_head All → Fits t x q hash (slot_or_none parent)
    → ((i : ℕ) → parent ≡ Some i → is_occupied t i ≡ true)
    → Placed (insert t x q hash (slot_or_none parent)) active_head x (place_head (record { blocks = insert t x q hash (slot_or_none parent); heads = h }) x parent previous arrival active_head)
unfolding place_head
place-done t h active_head x q hash None previous arrival g f there = place-root t h active_head x q hash None previous arrival g f refl
place-done t h active_head x q hash (Some i) previous arrival g f there = option? (slot_of_head h.tips i)
    (λ n. rw (n, place_head) (place-fork t h active_head x q hash (Some i) previous arrival g f (there i refl) n))
    (λ s e. rw (e, place_head) (place_up t h active_head x q hash (Some i) previous arrival g f (there i refl) s e))

-- ---- the late tails and the refresh

-- the block of sequence q and hash stands in slot x of w, which t has become
pub record Admitted (t : Blocks) (active_head x q : ℕ) (hash : List ℕ) (w : Tables) : Type 0 where
  pub good : Good w.blocks w.heads active_head All
  pub steady : Steady x t w.blocks
  pub sequence : seq_of w.blocks x ≡ q
  pub hashed : hash_of w.blocks x ≡ hash

resolve-is : (w : Tables) (x : ℕ) (previous : List ℕ) → is_occupied w.blocks x ≡ true
    → resolve_tails w x previous ≡ recompute_missing (link_tails w x (seq_of w.blocks x) (hash_of w.blocks x)) x (hash_of w.blocks x) previous
unfolding resolve_tails
resolve-is w x previous o = rw o

-- from where the new block has its head
resolve-good : (u : Blocks) (active_head x : ℕ) (w : Tables) (previous : List ℕ) → Placed u active_head x w
    → Good (refresh_tails (resolve_tails w x previous)).blocks (refresh_tails (resolve_tails w x previous)).heads active_head All
    × Steady NONE u (refresh_tails (resolve_tails w x previous)).blocks × (is_occupied (refresh_tails (resolve_tails w x previous)).blocks x ≡ true)
unfolding refresh_tails recompute_missing link_tails
resolve-good u active_head x w previous d =
    let q = seq_of w.blocks x in
    let hash = hash_of w.blocks x in
    let n = slots_of w.heads.tips in
    let v : Tables = in_order (link_late x q hash) n w in
    let j = all_keep u active_head x q hash n w (record {
      frame = d.good.frame;
      loose = λ s us. inl (d.good.anchored s us);
      home = d.home;
      fresh = d.fresh;
      known = refl;
      steady = d.steady;
    }) in
    rw (resolve-is w x previous d.home) (refreshed v active_head x All hash previous j.frame j.loose, j.steady, j.home)

pub admit-done : (t : Blocks) (h : Heads) (active_head x q : ℕ) (hash : List ℕ) (parent : Option ℕ) (previous : List ℕ) (arrival : ℕ) → Good t h active_head All → Fits t x q hash (slot_or_none parent)
    → ((i : ℕ) → parent ≡ Some i → is_occupied t i ≡ true)
    → Admitted t active_head x q hash (refresh_tails (admitted (record { blocks = insert_at t x (new_block q hash (slot_or_none parent)); heads = h }) x parent previous arrival active_head))
unfolding admitted
admit-done t h active_head x q hash parent previous arrival g f there =
    let p = slot_or_none parent in
    let k = g.frame.counts in
    let u : Blocks = insert t x q hash p in
    let w : Tables = place_head (record { blocks = u; heads = h }) x parent previous arrival active_head in
    let r = resolve-good u active_head x w previous (place-done t h active_head x q hash parent previous arrival g f there) in
    let v : Tables = refresh_tails (resolve_tails w x previous) in
    let shape = r.0.frame.counts.shape in
    let same = r.1.same x (occupied-real v.blocks x shape r.2) r.2 in
    rw (insert-is t x q hash p k f) (record {
      good = r.0;
      steady = steady-trans x t u v.blocks (insert-steady t x q hash p k f) (steady-any x u v.blocks shape r.1);
      sequence = same.1 ∙ insert-seq t x q hash p k f;
      hashed = same.2 ∙ insert-hash t x q hash p k f;
    })
