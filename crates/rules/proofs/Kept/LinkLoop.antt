-- The late tails are linked, head by head (01, "Admission").
use mathlib.Core.Path.{◌≡◌, refl, sym, ap, ◌∙◌}
use mathlib.Core.Logic.{inl, inr}
use mathlib.Core.Bool.{true, false, not, ◌&&◌}
use mathlib.Core.List.{List}
use Rattle.std.specs.Prelude.{None, Some}
use Prim.Native.Nat.{ℕ, zero, suc, ◌<◌}
use native.Mathlib.Omega.{arith}
use lib.Dec.{eqb}
use borrow.Author.Tests.{eqb-true}
use Rattle.rules.specs.Common.{in_order}
use Rattle.rules.specs.Records.{NONE, Blocks, Heads, Tables, tail_at, clear}
use Rattle.rules.specs.BlockTable.{resolve_parent, max_count}
use Rattle.rules.specs.Caches.{slot_of_head}
use Rattle.rules.specs.Admission.{misses, late, joined, link, link_late, is_late}
use Rattle.rules.specs.declared.Head.{Head}
use Rattle.rules.proofs.Splits.{split, option?, and-true}
use Rattle.rules.proofs.Kept.Table.{seq_of, parent_of, count_of, is_occupied, is_active, set_count, set_parent, occupied-real}
use Rattle.rules.proofs.Kept.Slots.{count-but, parent-but}
use Rattle.rules.proofs.Kept.Steady.{Steady, steady-trans, but-steady, ends_same}
use Rattle.rules.proofs.Kept.Seats.{tip_of, kept, clear-seat, clear-other, seat-tip}
use Rattle.rules.proofs.Kept.Frame.{Frame, Late, Apt, All, head-some}
use Rattle.rules.proofs.Kept.Leaves.{children-bound}
use Rattle.rules.proofs.Kept.Arrive.{raise, raised, raise-suc}
use Rattle.rules.proofs.Kept.Link.{Waits, merge, fork, loose-link}

-- what every turn keeps; the links began at s
pub record Joining (s : Blocks) (active_head x q : ℕ) (w : Tables) : Type 0 where
  pub frame : Frame w.blocks w.heads active_head All
  pub loose : Apt w.blocks w.heads (Late w.blocks)
  pub home : is_occupied w.blocks x ≡ true
  pub fresh : is_active w.blocks x ≡ false
  pub known : seq_of w.blocks x ≡ q
  pub steady : Steady NONE s w.blocks

apt-clear : (t : Blocks) (h : Heads) (r : ℕ) (need : Head → Type 0) → Apt t h need → Apt t (clear h r) need
apt-clear t h r need l s u =
    let c = clear-other h r s u in
    rw (seat-tip h (clear h r) r NONE (clear-seat h r) s c.0, (clear-seat h r).rest s c.0) (l s c.1)

apt-count : (t : Blocks) (h : Heads) (i c : ℕ) → Apt t h (Late t) → Apt (set_count t i c) h (Late (set_count t i c))
apt-count t h i c l s u = elim (l s u) [
  | inl e ↦ inl (ends_same t (set_count t i c) (λ _. (refl, refl, refl)) (tip_of h s) (kept h s) e)
  | inr r ↦ inr r
]

module _ (t : Blocks) (h : Heads) (x k : ℕ) where
  abbrev T : ℕ
  T = tail_at h.tails k

  link-none : slot_of_head h.tips x ≡ None → is_occupied t x ≡ true
      → link (record { blocks = t; heads = h }) x k ≡ record { blocks = set_count (set_parent t T x) x (raise (count_of t x)); heads = h }
  unfolding link joined resolve_parent
  link-none n o = rw (n, joined) (rw (raised (set_parent t T x) x o))

  link-some : (r : ℕ) → slot_of_head h.tips x ≡ Some r → link (record { blocks = t; heads = h }) x k ≡ record { blocks = set_parent t T x; heads = clear h r }
  unfolding link joined resolve_parent
  link-some r e = rw (e, joined)

  link-steady : Waits t x T → Steady NONE t (set_parent t T x)
  link-steady v = but-steady NONE t (set_parent t T x) T (parent-but t T x) refl refl refl refl (λ n. absurd (n v.orphan))

  module _ (s : Blocks) (active_head q : ℕ) (j : Joining s active_head x q (record { blocks = t; heads = h })) (v : Waits t x T) where
    by-fork : slot_of_head h.tips x ≡ None → Joining s active_head x q (link (record { blocks = t; heads = h }) x k)
    by-fork n =
        let f = j.frame in
        let low : count_of t x < max_count = omega (
          arith,
          f.counts.counted x v.home v.fresh,
          f.roomy.few,
          children-bound t h active_head All f (λ _. tt) x (occupied-real t x f.counts.shape v.home),
        ) in
        let u : Blocks = set_parent t T x in
        let c : ℕ = suc (count_of t x) in
        rw (link-none n v.home, raise-suc (count_of t x) low) (record {
          frame = fork t h active_head x T f v n;
          loose = apt-count u h x c (loose-link t h active_head x T f v j.loose);
          home = v.home;
          fresh = v.fresh;
          known = j.known;
          steady = steady-trans NONE s u (set_count u x c) (steady-trans NONE s t u j.steady (link-steady v))
              (but-steady NONE u (set_count u x c) x (count-but u x c) refl refl refl refl (λ _. refl));
        })

    by-merge : (r : ℕ) → slot_of_head h.tips x ≡ Some r → Joining s active_head x q (link (record { blocks = t; heads = h }) x k)
    by-merge r e =
        let f = j.frame in
        let w = head-some h x r e in
        let u : Blocks = set_parent t T x in
        rw (link-some r e) (record {
          frame = merge t h active_head x T f v r w.0 w.1;
          loose = apt-clear u h r (Late u) (loose-link t h active_head x T f v j.loose);
          home = v.home;
          fresh = v.fresh;
          known = j.known;
          steady = steady-trans NONE s t u j.steady (link-steady v);
        })

    pub link-keeps : Joining s active_head x q (link (record { blocks = t; heads = h }) x k)
    link-keeps = option? (slot_of_head h.tips x) by-fork by-merge

late-waits : (t : Blocks) (h : Heads) (x q : ℕ) (hash : List ℕ) (k : ℕ) → is_occupied t x ≡ true → is_active t x ≡ false → seq_of t x ≡ q
    → is_late (record { blocks = t; heads = h }) x q hash k ≡ true → Waits t x (tail_at h.tails k)
unfolding late
late-waits t h x q hash k o a e l =
    let i = tail_at h.tails k in
    let m = misses h.tips h.missing h.connected hash k && not (eqb i x) in
    let c1 = and-true (m && is_occupied t i && eqb (parent_of t i) NONE) (eqb (seq_of t i) (suc q)) l in
    let c2 = and-true (m && is_occupied t i) (eqb (parent_of t i) NONE) c1.0 in
    let c3 = and-true m (is_occupied t i) c2.0 in
    record { there = c3.1; orphan = eqb-true (parent_of t i) NONE c2.1; next = ap suc e ∙ sym (eqb-true (seq_of t i) (suc q) c1.1); home = o; fresh = a }

once-keeps : (s : Blocks) (active_head x q : ℕ) (hash : List ℕ) (k : ℕ) (w : Tables) → Joining s active_head x q w → Joining s active_head x q (link_late x q hash k w)
unfolding link_late
once-keeps s active_head x q hash k w j = split (is_late w x q hash k)
    (λ e. rw e (link-keeps w.blocks w.heads x k s active_head q j (late-waits w.blocks w.heads x q hash k j.home j.fresh j.known e)))
    (λ e. rw e j)

pub all_keep : (s : Blocks) (active_head x q : ℕ) (hash : List ℕ) (n : ℕ) (w : Tables) → Joining s active_head x q w → Joining s active_head x q (in_order (link_late x q hash) n w)
unfolding in_order
all_keep s active_head x q hash zero w j = j
all_keep s active_head x q hash (suc n) w j = once-keeps s active_head x q hash n (in_order (link_late x q hash) n w) (all_keep s active_head x q hash n w j)
