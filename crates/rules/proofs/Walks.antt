-- The walks to the parents: one equation for each thing that a visit can find.
use mathlib.Core.Path.{◌≡◌, refl}
use mathlib.Core.Logic.{◌≢◌}
use mathlib.Core.Bool.{true, false}
use mathlib.Core.List.{List}
use Prim.Native.Nat.{ℕ, zero, suc, ◌<◌}
use native.Mathlib.Omega.{arith}
use borrow.Author.Tests.{eq-eqb, ne_eqb}
use Rattle.rules.specs.Records.{NONE, parent_at, occupied, active}
use Rattle.rules.specs.BlockTable.{reaches, walks_to_active}
use Rattle.rules.specs.Anchor.{connection, tail, anchor_from}

module _ (parents sequences : List ℕ) (root : ℕ) where
  pub reaches-spent : (k i : ℕ) → k ≡ 0 → reaches parents sequences root k i ≡ false
  unfolding reaches
  reaches-spent k i z = rw z refl

  pub reaches-root : (k i : ℕ) → 0 < k → i ≡ root → reaches parents sequences root k i ≡ true
  unfolding reaches
  reaches-root zero i h e = absurd (omega arith)
  reaches-root (suc k) i h e = rw (eq-eqb i root e)

  pub reaches-empty : (k i : ℕ) → 0 < k → i ≢ root → occupied sequences i ≡ false → reaches parents sequences root k i ≡ false
  unfolding reaches
  reaches-empty zero i h ne o = absurd (omega arith)
  reaches-empty (suc k) i h ne o = rw (ne_eqb i root ne, o)

  pub reaches_end : (k i : ℕ) → 0 < k → i ≢ root → occupied sequences i ≡ true → parent_at parents i ≡ NONE → reaches parents sequences root k i ≡ false
  unfolding reaches
  reaches_end zero i h ne o e = absurd (omega arith)
  reaches_end (suc k) i h ne o e = rw (ne_eqb i root ne, o, eq-eqb (parent_at parents i) NONE e)

  pub reaches-up : (k i : ℕ) → i ≢ root → occupied sequences i ≡ true → parent_at parents i ≢ NONE
      → reaches parents sequences root (suc k) i ≡ reaches parents sequences root k (parent_at parents i)
  unfolding reaches
  reaches-up k i ne o e = rw (ne_eqb i root ne, o, ne_eqb (parent_at parents i) NONE e)

module _ (parents sequences flags : List ℕ) where
  pub active-spent : (k i : ℕ) → k ≡ 0 → walks_to_active parents sequences flags k i ≡ false
  unfolding walks_to_active
  active-spent k i z = rw z refl

  pub active-empty : (k i : ℕ) → 0 < k → occupied sequences i ≡ false → walks_to_active parents sequences flags k i ≡ false
  unfolding walks_to_active
  active-empty zero i h o = absurd (omega arith)
  active-empty (suc k) i h o = rw o

  pub active-here : (k i : ℕ) → 0 < k → occupied sequences i ≡ true → active flags i ≡ true → walks_to_active parents sequences flags k i ≡ true
  unfolding walks_to_active
  active-here zero i h o a = absurd (omega arith)
  active-here (suc k) i h o a = rw (o, a)

  pub active-end : (k i : ℕ) → 0 < k → occupied sequences i ≡ true → active flags i ≡ false → parent_at parents i ≡ NONE → walks_to_active parents sequences flags k i ≡ false
  unfolding walks_to_active
  active-end zero i h o a e = absurd (omega arith)
  active-end (suc k) i h o a e = rw (o, a, eq-eqb (parent_at parents i) NONE e)

  pub active-up : (k i : ℕ) → occupied sequences i ≡ true → active flags i ≡ false → parent_at parents i ≢ NONE
      → walks_to_active parents sequences flags (suc k) i ≡ walks_to_active parents sequences flags k (parent_at parents i)
  unfolding walks_to_active
  active-up k i o a e = rw (o, a, ne_eqb (parent_at parents i) NONE e)

module _ (parents sequences flags : List ℕ) where
  pub anchor-spent : (k last i : ℕ) → k ≡ 0 → anchor_from parents sequences flags k last i ≡ tail last
  unfolding anchor_from
  anchor-spent k last i z = rw z refl

  pub anchor-empty : (k last i : ℕ) → 0 < k → occupied sequences i ≡ false → anchor_from parents sequences flags k last i ≡ tail last
  unfolding anchor_from
  anchor-empty zero last i h o = absurd (omega arith)
  anchor-empty (suc k) last i h o = rw o

  pub anchor-active : (k last i : ℕ) → 0 < k → occupied sequences i ≡ true → active flags i ≡ true → anchor_from parents sequences flags k last i ≡ connection i
  unfolding anchor_from
  anchor-active zero last i h o a = absurd (omega arith)
  anchor-active (suc k) last i h o a = rw (o, a)

  pub anchor-root : (k last i : ℕ) → 0 < k → occupied sequences i ≡ true → active flags i ≡ false → parent_at parents i ≡ NONE → anchor_from parents sequences flags k last i ≡ tail i
  unfolding anchor_from
  anchor-root zero last i h o a e = absurd (omega arith)
  anchor-root (suc k) last i h o a e = rw (o, a, eq-eqb (parent_at parents i) NONE e)

  pub anchor-up : (k last i : ℕ) → occupied sequences i ≡ true → active flags i ≡ false → parent_at parents i ≢ NONE
      → anchor_from parents sequences flags (suc k) last i ≡ anchor_from parents sequences flags k i (parent_at parents i)
  unfolding anchor_from
  anchor-up k last i o a e = rw (o, a, ne_eqb (parent_at parents i) NONE e)
