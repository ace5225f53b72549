-- The way down the lists: where each step leads, what it comes to, and that it fits.
use Rattle.std.specs.Prelude.{if◌then◌else◌}
use mathlib.Core.Path.{◌≡◌, refl, sym, ap, ◌∙◌}
use mathlib.Core.Logic.{◌≢◌, ◌⊎◌, inl, inr}
use mathlib.Core.Bool.{true, false}
use mathlib.Core.List.{List}
use Prim.Native.Nat.{ℕ, zero, suc, ◌+◌, ◌*◌, ◌-◌, ◌≤◌, ◌<◌, max}
use native.Mathlib.Omega.{arith}
use native.Mathlib.Nat.{mul-le-mul}
use lib.Dec.{eqb}
use lib.ListN.{length, get_or, get_or-eq_default}
use borrow.Author.Tests.{eq-eqb, ne_eqb}
use Rattle.rules.specs.Records.{NONE, slots_of, sequence_at, parent_at, occupied}
use Rattle.rules.specs.BlockTable.{child_of}
use Rattle.rules.specs.Under.{met, hanging, highest}
use Rattle.rules.specs.Calls.{max_blocks}
use Rattle.rules.proofs.Splits.{split, same?, less?, true-not-false}
use Rattle.rules.proofs.Sums.{Joins, adding, greater, along, length-along}
use Rattle.rules.proofs.Under.{highest-along, met-few}
use Rattle.under_call.specs.Lists.{last_child, Listed, Child, Placed, children_below, down, down_from}
use Rattle.under_call.proofs.Lists.{last?, last_none, last-takes, last-skips, child-there, child-is}
use Rattle.under_call.proofs.Levels.{down-met}

-- a table of a call's size has no block past its slots
empty-past : (sequences : List ℕ) → slots_of sequences ≤ max_blocks → (i : ℕ) → slots_of sequences ≤ i → occupied sequences i ≡ false
unfolding slots_of occupied
empty-past sequences small i l = let h : length sequences ≤ i = omega arith in rw (get_or-eq_default sequences NONE h)

-- ---- where a step leads

module _ (parents sequences first next : List ℕ) where
  abbrev n : ℕ
  n = slots_of sequences

  last-place : (i k : ℕ) → i < n → k ≤ n → (last_child parents sequences i k ≡ NONE) ⊎ Child parents sequences (last_child parents sequences i k)
  last-place i k l small = last? parents sequences i k inl
      (λ b c. let (o, q) = child-there parents sequences i (last_child parents sequences i k) c in
      inr (record { within = omega arith; there = o; below = omega arith }))

  -- the highest child of a block
  pub goes-below : (i : ℕ) → slots_of sequences ≤ max_blocks → Listed parents sequences n first next → i < n → Placed parents sequences first next (get_or first i NONE)
  goes-below i small lists l = record {
    small = small;
    lists = lists;
    place = rw (lists.firsts i (let h = lists.holds in omega arith)) (last-place i n l (omega arith));
  }

  module _ (i : ℕ) (p : Placed parents sequences first next i) (real : i ≢ NONE) where
    pub a-child : Child parents sequences i
    a-child = elim p.place [ inl e ↦ absurd (real e) | inr c ↦ c ]

    next-is : get_or next i NONE ≡ last_child parents sequences (parent_at parents i) i
    next-is = let c = a-child in let h = p.lists.holds in p.lists.nexts i c.within c.there (let b = c.below in omega arith)

    pub placed_below_lem : Placed parents sequences first next (get_or first i NONE)
    placed_below_lem = goes-below i p.small p.lists a-child.within

    pub placed-next : Placed parents sequences first next (get_or next i NONE)
    placed-next = record {
      small = p.small;
      lists = p.lists;
      place = let c = a-child in rw next-is (last-place (parent_at parents i) i c.below (let l = c.within in omega arith));
    }

    pub next-falls : get_or next i NONE ≢ NONE → get_or next i NONE < i
    next-falls ne = last? parents sequences (parent_at parents i) i (λ e. absurd (ne (next-is ∙ e))) (λ l _. omega (arith, next-is))

-- ---- what it comes to

module _ (op : ℕ → ℕ → ℕ) (j : Joins op) (own : ℕ → ℕ) (parents sequences first next : List ℕ) where
  abbrev from : ℕ → ℕ → ℕ
  from levels i = down_from op own parents sequences levels i

  abbrev each : ℕ → ℕ → ℕ → ℕ
  each levels i k = children_below op (down op own parents sequences levels) parents sequences i k

  pub from-none : (levels i : ℕ) → i ≡ NONE → from levels i ≡ 0
  unfolding down_from
  from-none levels i e = rw (eq-eqb i NONE e)

  from-child : (levels i : ℕ) → i ≢ NONE → from levels i ≡ each levels (parent_at parents i) (suc i)
  unfolding down_from
  from-child levels i ne = rw (ne_eqb i NONE ne)

  each-takes : (levels i k : ℕ) → child_of parents sequences i k ≡ true → each levels i (suc k) ≡ op (each levels i k) (down op own parents sequences levels k)
  unfolding children_below
  each-takes levels i k e = rw e

  each-skips : (levels i k : ℕ) → child_of parents sequences i k ≡ false → each levels i (suc k) ≡ each levels i k
  unfolding children_below
  each-skips levels i k e = rw e

  -- the children below k, from the highest of them on
  from_last : (levels i k : ℕ) → k ≤ NONE → each levels i k ≡ from levels (last_child parents sequences i k)
  unfolding children_below
  from_last levels i zero l = sym (from-none levels (last_child parents sequences i 0) (last_none parents sequences i))
  from_last levels i (suc k) l = split (child_of parents sequences i k)
      (λ e. rw (last-takes parents sequences i k e)
      (ap (λ (x : ℕ). each levels x (suc k)) (sym (child-there parents sequences i k e).1) ∙ sym (from-child levels k (omega arith))))
      (λ e. rw (last-skips parents sequences i k e, each-skips levels i k e) (from_last levels i k (omega arith)))

  spent : (i k : ℕ) → each 0 i k ≡ 0
  unfolding children_below down
  spent i zero = refl
  spent i (suc k) = split (child_of parents sequences i k) (λ e. rw (e, spent i k) (j.none 0)) (λ e. rw (e, spent i k))

  pub from-spent : (levels i : ℕ) → levels ≡ 0 → from levels i ≡ 0
  unfolding down_from
  from-spent levels i z = split (eqb i NONE) (λ e. rw e) (λ e. rw (e, z) (spent (parent_at parents i) (suc i)))

  pub down-first : (levels i : ℕ) → slots_of sequences ≤ max_blocks → Listed parents sequences (slots_of sequences) first next → i < slots_of sequences
      → down op own parents sequences (suc levels) i ≡ op (own i) (from levels (get_or first i NONE))
  unfolding down
  down-first levels i small lists l =
      let h = lists.holds in
      rw (lists.firsts i (omega arith)) (ap (op (own i)) (from_last levels i (slots_of sequences) (omega arith)))

  -- a child, what hangs under it, and its siblings
  pub from_step : (levels i : ℕ) → Placed parents sequences first next i → i ≢ NONE
      → from (suc levels) i ≡ op (own i) (op (from levels (get_or first i NONE)) (from (suc levels) (get_or next i NONE)))
  from_step levels i p ne =
      let c = a-child parents sequences first next i p ne in
      let small = p.small in
      let within = c.within in
      from-child (suc levels) i ne
      ∙ each-takes (suc levels) (parent_at parents i) i (child-is parents sequences i c.there)
      ∙ rw (down-first levels i small p.lists within, next-is parents sequences first next i p ne, from_last (suc levels) (parent_at parents i) i (omega arith))
      (j.comm (from (suc levels) (last_child parents sequences (parent_at parents i) i)) (op (own i) (from levels (get_or first i NONE)))
      ∙ j.assoc (own i) (from levels (get_or first i NONE)) (from (suc levels) (last_child parents sequences (parent_at parents i) i)))

-- ---- the number

module _ (parents sequences : List ℕ) where
  abbrev n' : ℕ
  n' = slots_of sequences

  abbrev some : ℕ → ℕ → ℕ → ℕ
  some levels i k = children_below ◌+◌ (down ◌+◌ (λ _. 1) parents sequences levels) parents sequences i k

  grows : (levels i k : ℕ) → some levels i k ≤ some levels i (suc k)
  unfolding children_below
  grows levels i k = split (child_of parents sequences i k) (λ e. rw e (omega arith)) (λ e. rw e (omega arith))

  all_most : (levels i k m : ℕ) → k ≤ m → some levels i k ≤ some levels i m
  all_most levels i k zero l = let e : k ≡ 0 = omega arith in rw e (omega arith)
  all_most levels i k (suc m) l = same? k (suc m)
      (λ e. rw e (omega arith))
      (λ ne. omega (arith, all_most levels i k m (omega arith), grows levels i m))

  -- no more than n at each level
  some-few : (levels i : ℕ) → slots_of sequences ≤ max_blocks → levels ≤ max_blocks → i < slots_of sequences → some levels i (slots_of sequences) ≤ max_blocks * max_blocks
  unfolding down
  some-few levels i small few l =
      let d = down-met ◌+◌ adding (λ _. 1) parents sequences (empty-past sequences small) (suc levels) i l in
      omega (arith, d, length-along (met parents sequences i (suc levels)), met-few parents sequences i l levels, mul-le-mul few small)

  pub from-few : (first next : List ℕ) (levels i : ℕ) → levels ≤ max_blocks → Placed parents sequences first next i
      → down_from ◌+◌ (λ _. 1) parents sequences levels i ≤ max_blocks * max_blocks
  from-few first next levels i few p = same? i NONE
      (λ e. omega (arith, from-none ◌+◌ adding (λ _. 1) parents sequences first next levels i e))
      (λ ne.
      let c = a-child parents sequences first next i p ne in
      let within = c.within in
      omega (
        arith,
        from-child ◌+◌ adding (λ _. 1) parents sequences first next levels i ne,
        all_most levels (parent_at parents i) (suc i) (slots_of sequences) (omega arith),
        some-few levels (parent_at parents i) p.small few c.below,
      ))

-- ---- from the root

module _ (op : ℕ → ℕ → ℕ) (j : Joins op) (own : ℕ → ℕ) (parents sequences first next : List ℕ) (root : ℕ) where
  hanging-first : slots_of sequences ≤ max_blocks → Listed parents sequences (slots_of sequences) first next → root < slots_of sequences
      → along op own (hanging parents sequences root) ≡ op (own root) (down_from op own parents sequences (slots_of sequences - 1) (get_or first root NONE))
  unfolding hanging
  hanging-first small lists l =
      let e : suc (slots_of sequences - 1) ≡ slots_of sequences = omega arith in
      sym (down-met op j own parents sequences (empty-past sequences small) (slots_of sequences) root l)
      ∙ ap (λ levels. down op own parents sequences levels root) (sym e)
      ∙ down-first op j own parents sequences first next (slots_of sequences - 1) root small lists l

pub root-slot : (sequences : List ℕ) (root : ℕ) → slots_of sequences ≤ max_blocks → occupied sequences root ≡ true → root < slots_of sequences
root-slot sequences root small o = less? root (slots_of sequences) (λ l. l) (λ l. true-not-false {b = occupied sequences root} o (empty-past sequences small root l))

module _ (parents sequences first next : List ℕ) (root : ℕ) (small : slots_of sequences ≤ max_blocks)
    (lists : Listed parents sequences (slots_of sequences) first next) (there : occupied sequences root ≡ true) where
  abbrev within : root < slots_of sequences
  within = root-slot sequences root small there

  pub root-placed : (below : ℕ) → below ≡ get_or first root NONE → Placed parents sequences first next below
  root-placed below e = rw e (goes-below parents sequences first next root small lists within)

  module _ (below levels blocks most : ℕ) (e : below ≡ get_or first root NONE) (d : levels ≡ slots_of sequences - 1) where
    pub root-number : blocks ≡ down_from ◌+◌ (λ _. 1) parents sequences levels below → blocks + 1 ≡ length (hanging parents sequences root)
    root-number h =
        let w = length-along (hanging parents sequences root) ∙ hanging-first ◌+◌ adding (λ _. 1) parents sequences first next root small lists within in
        let h' = rw (e, d) at h in
        omega arith

    pub root-highest : (own : ℕ) → own ≡ sequence_at sequences root → most ≡ down_from max (sequence_at sequences) parents sequences levels below
        → max own most ≡ highest sequences (hanging parents sequences root)
    root-highest own o h =
        rw (o, h, e, d)
        (sym (highest-along sequences (hanging parents sequences root)
        ∙ hanging-first max greater (sequence_at sequences) parents sequences first next root small lists within))

-- ---- a turn

module _ (op : ℕ → ℕ → ℕ) (j : Joins op) (own : ℕ → ℕ) (parents sequences first next : List ℕ)
    (left i so_far total : ℕ) (some : 0 < left) (p : Placed parents sequences first next i) (real : i ≢ NONE)
    (e : op so_far (down_from op own parents sequences left i) ≡ total) where
  abbrev below : ℕ
  below = down_from op own parents sequences (left - 1) (get_or first i NONE)

  abbrev siblings : ℕ
  siblings = down_from op own parents sequences left (get_or next i NONE)

  step : down_from op own parents sequences left i ≡ op (own i) (op below siblings)
  step =
      let s : suc (left - 1) ≡ left = omega arith in
      let f = from_step op j own parents sequences first next (left - 1) i p real in
      rw s at f

  taken : op (op so_far (own i)) (op below siblings) ≡ total
  taken = j.assoc so_far (own i) (op below siblings) ∙ rw (← step) e

  -- the last sibling is counted, and its children are left
  pub turn_below : get_or next i NONE ≡ NONE → op (op so_far (own i)) below ≡ total
  turn_below z = rw (from-none op j own parents sequences first next left (get_or next i NONE) z, j.none below) at taken

  -- a child is counted with all that hangs under it, and its siblings are left
  pub turn-next : (under : ℕ) → under ≡ below → op (op (op so_far (own i)) under) siblings ≡ total
  turn-next under q = rw q (j.assoc (op so_far (own i)) below siblings ∙ taken)

-- what is counted so far, and the place from which the rest is counted
pub record Going (parents sequences first next : List ℕ) (levels from left i blocks most : ℕ) : Type 0 where
  pub placed : Placed parents sequences first next i
  pub number : blocks + down_from ◌+◌ (λ _. 1) parents sequences left i ≡ down_from ◌+◌ (λ _. 1) parents sequences levels from
  pub highest : max most (down_from max (sequence_at sequences) parents sequences left i) ≡ down_from max (sequence_at sequences) parents sequences levels from

module _ (parents sequences first next : List ℕ) (levels from : ℕ) where
  module _ (left i blocks most : ℕ) (g : Going parents sequences first next levels from left i blocks most) where
    abbrev Whole : Type 0
    Whole = (blocks ≡ down_from ◌+◌ (λ _. 1) parents sequences levels from) × (most ≡ down_from max (sequence_at sequences) parents sequences levels from)

    nothing_left : ((op : ℕ → ℕ → ℕ) (j : Joins op) (own : ℕ → ℕ) → down_from op own parents sequences left i ≡ 0) → Whole
    nothing_left z = (
      omega (arith, g.number, z ◌+◌ adding (λ _. 1)),
      omega (arith, g.highest, z max greater (sequence_at sequences)),
    )

    pub ends-none : i ≡ NONE → Whole
    ends-none e = nothing_left (λ op j own. from-none op j own parents sequences first next left i e)

    pub ends-spent : left ≡ 0 → Whole
    ends-spent e = nothing_left (λ op j own. from-spent op j own parents sequences first next left i e)

    module _ (some : 0 < left) (real : i ≢ NONE) where
      pub goes-to-children : get_or next i NONE ≡ NONE
          → Going parents sequences first next levels from (left - 1) (get_or first i NONE) (blocks + 1) (max most (sequence_at sequences i))
      goes-to-children z = record {
        placed = placed_below_lem parents sequences first next i g.placed real;
        number = turn_below ◌+◌ adding (λ _. 1) parents sequences first next left i blocks _ some g.placed real g.number z;
        highest = turn_below max greater (sequence_at sequences) parents sequences first next left i most _ some g.placed real g.highest z;
      }

      module _ (under best : ℕ)
          (n : under ≡ down_from ◌+◌ (λ _. 1) parents sequences (left - 1) (get_or first i NONE))
          (h : best ≡ down_from max (sequence_at sequences) parents sequences (left - 1) (get_or first i NONE)) where
        pub goes-to-sibling : Going parents sequences first next levels from left (get_or next i NONE) (blocks + 1 + under) (max (max most (sequence_at sequences i)) best)
        goes-to-sibling = record {
          placed = placed-next parents sequences first next i g.placed real;
          number = turn-next ◌+◌ adding (λ _. 1) parents sequences first next left i blocks _ some g.placed real g.number under n;
          highest = turn-next max greater (sequence_at sequences) parents sequences first next left i most _ some g.placed real g.highest best h;
        }

-- ---- it ends: a level less, or a lower sibling

abbrev pub rank : ℕ → ℕ
rank i = if eqb i NONE then 0 else suc i

pub rank-some : (i : ℕ) → i ≢ NONE → rank i ≡ suc i
rank-some i ne = rw (ne_eqb i NONE ne)

pub rank-few : (parents sequences first next : List ℕ) (i : ℕ) → Placed parents sequences first next i → rank i ≤ max_blocks
rank-few parents sequences first next i p = same? i NONE
    (λ e. rw (eq-eqb i NONE e) (omega arith))
    (λ ne. let c = a-child parents sequences first next i p ne in let l = c.within in let s = p.small in omega (arith, rank-some i ne))
