-- Rank: the first of value, length and hash that differs decides.
use mathlib.Core.Path.{◌≡◌, refl}
use mathlib.Core.Logic.{◌≢◌}
use mathlib.Core.Bool.{Bool, true, false, ◌||◌}
use Prim.Native.Nat.{ℕ}
use native.Mathlib.Omega.{arith}
use borrow.Author.Tests.{eq-eqb, ne_eqb, le-ltb}
use lib.Dec.{ltb}
use Rattle.rules.specs.Hashes.{hash_less}
use Rattle.rules.specs.Rank.{Rank, outranks}

or-false : (b : Bool) → (b || false) ≡ b
or-false true = refl
or-false false = refl

not-below : (x y : ℕ) → x ≡ y → ltb y x ≡ false
not-below x y e = le-ltb y x (omega arith)

module _ (a b : Rank) where
  pub outranks-value : a.value ≢ b.value → outranks a b ≡ ltb b.value a.value
  unfolding outranks
  outranks-value ne = rw (ne_eqb _ _ ne) (or-false (ltb b.value a.value))

  pub outranks-length : a.value ≡ b.value → a.length ≢ b.length → outranks a b ≡ ltb b.length a.length
  unfolding outranks
  outranks-length e ne = rw (not-below a.value b.value e, eq-eqb _ _ e, ne_eqb _ _ ne) (or-false (ltb b.length a.length))

  pub outranks-hash : a.value ≡ b.value → a.length ≡ b.length → outranks a b ≡ hash_less a.hash b.hash
  unfolding outranks
  outranks-hash e f = rw (not-below a.value b.value e, eq-eqb _ _ e, not-below a.length b.length f, eq-eqb _ _ f)
