-- A call that looks for a victim finds one; on other tables, without one, no head is inserted (01, "Lists of calls").
use mathlib.Core.Path.{◌≡◌, refl, ap, ◌∙◌}
use mathlib.Core.Logic.{◌≢◌}
use mathlib.Core.List.{List}
use Rattle.std.specs.Prelude.{None, Some}
use Prim.Native.Nat.{ℕ, zero, suc, ◌≤◌, ◌<◌}
use native.Mathlib.Omega.{arith}
use Rattle.rules.specs.Common.{in_order}
use Rattle.rules.specs.Hashes.{zero_hash}
use Rattle.rules.specs.Records.{NONE, Blocks, Tables}
use Rattle.rules.specs.Caches.{slot_of_head}
use Rattle.rules.specs.Eviction.{victim, evict_one}
use Rattle.rules.specs.Admission.{one_more, first_empty, seat_head, make_room, insert_head}
use Rattle.rules.specs.Rebuild.{is_leaf, rebuild_at, rebuilt_below, headless}
use Rattle.rules.specs.Answers.{slot}
use Rattle.rules.specs.Calls.{State, Call, restart_call, step, admit, slot_or_none, parent_found, inserted}
use Rattle.rules.specs.Promises.{Sound, root, fork, again, VictimIfFull, FindsVictims}
use Rattle.rules.proofs.Splits.{split, same?}
use Rattle.rules.proofs.Kept.Seats.{Room}
use Rattle.rules.proofs.Kept.Frame.{Good, All}
use Rattle.rules.proofs.Kept.Place.{full-victim}
use Rattle.rules.proofs.Kept.Insert.{Fits, insert, insert-is}
use Rattle.rules.proofs.Kept.Arrive.{root-good}
use Rattle.rules.proofs.Kept.Admit.{risen}
use Rattle.rules.proofs.Kept.Rebuild.{Trunk, frame-trunk, half-good}
use Rattle.rules.proofs.Kept.Walked.{its_blocks, its_heads}
use Rattle.rules.proofs.Kept.Border.{sound-good}
use Rattle.rules.proofs.Kept.AdmitStep.{fits, parent_is, admit-slot}

-- ---- tables without a victim

module _ (t : Tables) (active_head : ℕ) (full : first_empty t.heads.tips ≡ None) (nobody : victim t.blocks.hashes t.blocks.sequences t.heads.tips active_head ≡ None) where
  no-room-made : make_room t active_head ≡ t
  unfolding make_room evict_one
  no-room-made = rw (full, make_room) (rw (nobody, evict_one))

  -- the new tip gets no head
  pub no-head-inserted : (tip arriving : ℕ) (previous : List ℕ) (arrival : ℕ) → insert_head t tip arriving previous arrival active_head ≡ t
  unfolding insert_head seat_head
  no-head-inserted tip arriving previous arrival = rw no-room-made (rw (full, seat_head))

  no-leaf-seated : (arrival i : ℕ) → rebuild_at arrival active_head i t ≡ t
  unfolding rebuild_at
  no-leaf-seated arrival i = split (is_leaf t i) (λ e. rw e (no-head-inserted i NONE zero_hash arrival)) (λ e. rw e refl)

module _ (t : Tables) (arrival active_head k : ℕ) where
  abbrev w : Tables
  w = rebuilt_below k t arrival active_head

  -- a rebuild adds no more heads
  pub no-head-rebuilt : first_empty w.heads.tips ≡ None → victim w.blocks.hashes w.blocks.sequences w.heads.tips active_head ≡ None
      → (n : ℕ) → k ≤ n → rebuilt_below n t arrival active_head ≡ w
  unfolding in_order
  no-head-rebuilt full nobody zero l = let e : k ≡ 0 = omega arith in rw e refl
  no-head-rebuilt full nobody (suc n) l = same? k (suc n)
      (λ e. rw e refl)
      (λ ne. ap (rebuild_at arrival active_head n) (no-head-rebuilt full nobody n (omega arith)) ∙ no-leaf-seated w active_head full nobody arrival n)

-- ---- restart, from blocks whose counts may be anything

module _ (s : State) (r : Room (its_heads s)) (b : Trunk (its_blocks s) s.active_head) where
  at_leaf : (now i : ℕ) → VictimIfFull (rebuilt_below i (headless s.tables) now s.active_head) s.active_head
  at_leaf now i =
      let w : Tables = rebuilt_below i (headless s.tables) now s.active_head in
      full-victim w.blocks w.heads s.active_head (λ k. k < i) (half-good (its_blocks s) (its_heads s) s.active_head now r b i)

  pub restart-finds : (now : ℕ) → FindsVictims s (restart_call now)
  restart-finds now w (again k i e l) = at_leaf k i

-- ---- every call

module _ (s : State) (z : Sound s) where
  abbrev t : Blocks
  t = its_blocks s

  g : Good t (its_heads s) s.active_head All
  g = sound-good s z

  module _ (q : ℕ) (hash previous : List ℕ) (arrival x : ℕ) (e : (admit s q hash previous arrival).answer ≡ slot x) where
    f : Fits t x q hash (slot_or_none (parent_found s q previous))
    f = fits s q hash previous arrival x z (admit-slot s q hash previous arrival x e).0

    at-root : parent_found s q previous ≡ None → VictimIfFull (one_more (inserted s x q hash previous) x) s.active_head
    at-root n =
        let p = slot_or_none (parent_found s q previous) in
        rw (insert-is t x q hash p g.frame.counts f) (full-victim (insert t x q hash p) (its_heads s) s.active_head (λ i. i ≢ x) (root-good t (its_heads s) s.active_head x q hash p g f (rw n refl)))

    at_fork : (p : ℕ) → parent_found s q previous ≡ Some p → slot_of_head (its_heads s).tips p ≡ None → VictimIfFull (one_more (one_more (inserted s x q hash previous) x) p) s.active_head
    at_fork p d n =
        let k : Fits t x q hash p = rw d at f in
        let w : Tables = one_more (record { blocks = insert t x q hash p; heads = its_heads s }) p in
        rw (d, insert-is t x q hash p g.frame.counts k)
        (full-victim w.blocks (its_heads s) s.active_head (λ i. i ≢ x) (risen t (its_heads s) s.active_head x q hash (Some p) previous arrival g k (parent_is t q previous p d).0 n))

  pub finds-victims : (call : Call) → FindsVictims s call
  unfolding step
  finds-victims call w (root q hash previous arrival i e n) = at-root q hash previous arrival i e n
  finds-victims call w (fork q hash previous arrival i p e n m) = at_fork q hash previous arrival i e p n m
  finds-victims call w (again now i e l) = at_leaf s g.frame.roomy (frame-trunk t (its_heads s) s.active_head g.frame) now i
