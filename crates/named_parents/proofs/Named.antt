-- What the bytes tell: a slot is childless exactly when no block names it.
use mathlib.Core.Path.{◌≡◌, refl, sym, ap, ◌∙◌}
use mathlib.Core.Bool.{◌&&◌}
use mathlib.Core.List.{List}
use Prim.Native.Nat.{ℕ, zero, suc, ◌+◌, ◌<◌}
use native.Mathlib.Nat.{zero-add}
use native.Mathlib.Omega.{arith}
use lib.Dec.{eqb}
use lib.ListN.{length, get_or, replicate, length-set, length-replicate, get_or-replicate}
use lib.Seq.{get_or-set_same, get_or-set_other}
use borrow.Author.Tests.{eq-eqb, ne_eqb, lt-ltb, le-ltb}
use Rattle.rules.specs.Common.{count_below, in_order}
use Rattle.rules.specs.Records.{slots_of, parent_at, occupied}
use Rattle.rules.specs.BlockTable.{child_of, children, childless}
use Rattle.rules.proofs.Splits.{split, same?, less?}
use Rattle.rules.proofs.Each.{each-length}
use Rattle.named_parents.specs.Named.{name_parent, named_parents, is_end}

module _ (parents sequences : List ℕ) where
  name-length : (j : ℕ) (l : List ℕ) → length (name_parent parents sequences j l) ≡ length l
  unfolding name_parent
  name-length j l = split (occupied sequences j) (λ o. rw o (length-set l (parent_at parents j) 1)) (λ o. rw o)

  pub named-length : (size : ℕ) → length (named_parents parents sequences size) ≡ size
  unfolding named_parents
  named-length size = each-length (name_parent parents sequences) name-length (slots_of sequences) (replicate size 0) ∙ length-replicate size 0

  -- one slot more that may name slot i
  name-next : (j i : ℕ) (l : List ℕ) → i < length l → eqb (get_or l i 0) 0 ≡ eqb (count_below (child_of parents sequences i) j) 0
      → eqb (get_or (name_parent parents sequences j l) i 0) 0 ≡ eqb (count_below (child_of parents sequences i) (suc j)) 0
  unfolding name_parent count_below child_of
  name-next j i l h e = split (occupied sequences j)
      (λ o. same? (parent_at parents j) i
      (λ q. rw (o, q, eq-eqb i i refl, get_or-set_same l i 1 0 h) (sym (ne_eqb (1 + count_below (child_of parents sequences i) j) 0 (omega arith))))
      (λ ne. rw (o, ne_eqb (parent_at parents j) i ne, get_or-set_other l (parent_at parents j) i 1 0 (λ z. ne (sym z))) (e ∙ rw zero-add)))
      (λ o. rw o (e ∙ rw zero-add))

  named-byte : (size i j : ℕ) → i < size
      → eqb (get_or (in_order (name_parent parents sequences) j (replicate size 0)) i 0) 0 ≡ eqb (count_below (child_of parents sequences i) j) 0
  unfolding in_order count_below
  named-byte size i zero h = rw (get_or-replicate {A = ℕ} size i 0 0 h)
  named-byte size i (suc j) h =
      let l = in_order (name_parent parents sequences) j (replicate size 0) in
      let e : length l ≡ size = each-length (name_parent parents sequences) name-length j (replicate size 0) ∙ length-replicate size 0 in
      name-next j i l (omega arith) (named-byte size i j h)

  pub named-childless : (size i : ℕ) → i < size → eqb (get_or (named_parents parents sequences size) i 0) 0 ≡ childless parents sequences i
  unfolding named_parents childless children
  named-childless size i h = named-byte size i (slots_of sequences) h

  pub named_end : (named : List ℕ) (i : ℕ) → named ≡ named_parents parents sequences (length named) → is_end parents sequences named i ≡ (occupied sequences i && childless parents sequences i)
  unfolding is_end
  named_end named i q = less? i (length named)
      (λ l. rw (lt-ltb _ _ l) (ap (λ b. occupied sequences i && b) (ap (λ (bytes : List ℕ). eqb (get_or bytes i 0) 0) q ∙ named-childless (length named) i l)))
      (λ l. rw (le-ltb _ _ l))
