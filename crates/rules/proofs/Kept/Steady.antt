-- What a change of the block table carries over: names of blocks, active blocks, ends of walks; and that eviction does.
use mathlib.Core.Path.{◌≡◌, refl, sym, ◌∙◌}
use mathlib.Core.Logic.{◌≢◌}
use mathlib.Core.Bool.{true, false}
use Prim.Native.Nat.{ℕ}
use native.Mathlib.Omega.{arith}
use Rattle.rules.specs.Records.{NONE, Blocks, erase}
use Rattle.rules.specs.Anchor.{Anchor}
use Rattle.rules.specs.Promises.{children_of}
use Rattle.rules.proofs.Splits.{same?, true-not-false}
use Rattle.rules.proofs.Kept.Table.{size, seq_of, parent_of, hash_of, is_occupied, is_active, set_count, Shape, occupied-real, childless}
use Rattle.rules.proofs.Kept.Slots.{But, but-seq, but-parent, but-hash, but-chain, but-occupied, erase-but, erase-empty, erase-kids-other, erase-kids-parent, count-kids}
use Rattle.rules.proofs.Kept.Ends.{Ends, at-active, at-root, goes_on}
use Rattle.rules.proofs.Kept.Freed.{Freed, off, keeps, frees}

-- blocks keep their names, save what is written into slot x; the active blocks stay, and none is added
pub record Steady (x : ℕ) (t u : Blocks) : Type 0 where
  pub keeps : (i : ℕ) → is_occupied t i ≡ true → is_active t i ≡ true → (is_occupied u i ≡ true) × (is_active u i ≡ true) × (parent_of t i ≢ NONE → parent_of u i ≡ parent_of t i)
  pub back : (i : ℕ) → is_occupied u i ≡ true → is_active u i ≡ true → (is_occupied t i ≡ true) × (is_active t i ≡ true)
  pub same : (i : ℕ) → i ≢ x → is_occupied u i ≡ true → (is_occupied t i ≡ true) × (seq_of u i ≡ seq_of t i) × (hash_of u i ≡ hash_of t i)

pub steady-refl : (x : ℕ) (t : Blocks) → Steady x t t
steady-refl x t = record { keeps = λ _ o a. (o, a, λ _. refl); back = λ _ o a. (o, a); same = λ _ _ o. (o, refl, refl) }

pub steady-trans : (x : ℕ) (t u v : Blocks) → Steady x t u → Steady x u v → Steady x t v
steady-trans x t u v a b = record {
  keeps = λ i o c.
      let p = a.keeps i o c in
      let q = b.keeps i p.0 p.1 in
      (q.0, q.1, λ ne. q.2 (rw (p.2 ne) ne) ∙ p.2 ne);
  back = λ i o c. let p = b.back i o c in a.back i p.0 p.1;
  same = λ i ne o.
      let p = b.same i ne o in
      let q = a.same i ne p.0 in
      (q.0, p.1 ∙ q.1, p.2 ∙ q.2);
}

-- an exception more does no harm
pub steady-any : (x : ℕ) (t u : Blocks) → Shape u → Steady NONE t u → Steady x t u
steady-any x t u s a = record { keeps = a.keeps; back = a.back; same = λ i _ o. a.same i (occupied-real u i s o) o }

-- one slot changes, and stays what it was but for its count, or its parent where it had none
pub but-steady : (x : ℕ) (t u : Blocks) (i : ℕ) → But t u i → is_occupied u i ≡ is_occupied t i → is_active u i ≡ is_active t i → seq_of u i ≡ seq_of t i → hash_of u i ≡ hash_of t i
    → (parent_of t i ≢ NONE → parent_of u i ≡ parent_of t i) → Steady x t u
but-steady x t u i b so sa ss sh sp =
    let hold : (j : ℕ) → is_occupied u j ≡ is_occupied t j = λ j. same? j i (λ q. rw q so) (λ ne. but-occupied t u i b j ne) in
    let chain : (j : ℕ) → is_active u j ≡ is_active t j = λ j. same? j i (λ q. rw q sa) (λ ne. but-chain t u i b j ne) in
    record {
      keeps = λ j o a. (hold j ∙ o, chain j ∙ a, λ n. same? j i (λ q. rw q (sp (rw q at n))) (λ ne. but-parent t u i b j ne));
      back = λ j o a. (sym (hold j) ∙ o, sym (chain j) ∙ a);
      same = λ j _ o. (sym (hold j) ∙ o, same? j i (λ q. rw q ss) (λ ne. but-seq t u i b j ne), same? j i (λ q. rw q sh) (λ ne. but-hash t u i b j ne));
    }

-- ---- eviction

-- a childless block off the walk's start stays, childless
pub freed-leaf : (t : Blocks) (i : ℕ) (u : Blocks) → Freed t i u → (j : ℕ) → j ≢ i → is_occupied t j ≡ true → children_of t j ≡ 0
    → (is_occupied u j ≡ true) × (children_of u j ≡ 0)
freed-leaf t i u (off t' i' e) j ne o z = (o, z)
freed-leaf t i u (keeps t' i' c e h) j ne o z = (o, rw count-kids z)
freed-leaf t i u (frees t' i' u' e a h r) j ne o z =
    let np : parent_of t i ≢ j = λ q. absurd (omega (arith, rw q at (erase-kids-parent t i e))) in
    freed-leaf (erase t i) (parent_of t i) u r j (λ q. np (sym q))
    (rw (but-occupied t (erase t i) i (erase-but t i) j ne) o)
    (rw (erase-kids-other t i j np) z)

-- what is there after was there before, under its name
pub freed-back : (t : Blocks) (i : ℕ) (u : Blocks) → Freed t i u → (j : ℕ) → is_occupied u j ≡ true
    → (is_occupied t j ≡ true) × (seq_of u j ≡ seq_of t j) × (hash_of u j ≡ hash_of t j) × (is_active u j ≡ is_active t j)
freed-back t i u (off t' i' e) j o = (o, refl, refl, refl)
freed-back t i u (keeps t' i' c e h) j o = (o, refl, refl, refl)
freed-back t i u (frees t' i' u' e b h r) j o =
    let p = freed-back (erase t i) (parent_of t i) u r j o in
    let ne : j ≢ i = λ q. true-not-false {b = is_occupied (erase t i) j} p.0 (rw q (erase-empty t i)) in
    let w = erase-but t i in
    (sym (but-occupied t (erase t i) i w j ne) ∙ p.0, p.1 ∙ but-seq t (erase t i) i w j ne, p.2 ∙ but-hash t (erase t i) i w j ne, p.3 ∙ but-chain t (erase t i) i w j ne)

-- no active block goes, and its parent stays
pub freed-active : (t : Blocks) (i : ℕ) (u : Blocks) → Freed t i u → (j : ℕ) → is_occupied t j ≡ true → is_active t j ≡ true
    → (is_occupied u j ≡ true) × (is_active u j ≡ true) × (parent_of u j ≡ parent_of t j)
freed-active t i u (off t' i' e) j o a = (o, a, refl)
freed-active t i u (keeps t' i' c e h) j o a = (o, a, refl)
freed-active t i u (frees t' i' u' e b h r) j o a =
    let ne : j ≢ i = λ q. true-not-false {b = is_active t j} a (rw q b) in
    let w = erase-but t i in
    let p = freed-active (erase t i) (parent_of t i) u r j (rw (but-occupied t (erase t i) i w j ne) o) (rw (but-chain t (erase t i) i w j ne) a) in
    (p.0, p.1, p.2 ∙ but-parent t (erase t i) i w j ne)

pub freed-steady : (x : ℕ) (t : Blocks) (i : ℕ) (u : Blocks) → Freed t i u → Steady x t u
freed-steady x t i u w = record {
  keeps = λ j o a. let p = freed-active t i u w j o a in (p.0, p.1, λ _. p.2);
  back = λ j o a. let p = freed-back t i u w j o in (p.0, sym p.3 ∙ a);
  same = λ j _ o. let p = freed-back t i u w j o in (p.0, p.1, p.2);
}

-- what is childless after was childless before and off the walk's start, or is active
pub freed-childless : (t : Blocks) (i : ℕ) (u : Blocks) → Freed t i u → (j : ℕ) → is_occupied u j ≡ true → is_active u j ≡ false → children_of u j ≡ 0
    → (j ≢ i) × (children_of t j ≡ 0)
freed-childless t i u (off t' i' e) j o a z = (λ q. true-not-false {b = is_occupied t j} o (rw q e), z)
freed-childless t i u (keeps t' i' c e h) j o a z =
    let z' : children_of t j ≡ 0 = rw count-kids at z in
    (λ q. absurd (let hh = h (rw q at a) in let zz = rw q at z' in omega arith), z')
freed-childless t i u (frees t' i' u' e b h r) j o a z =
    let d = freed-childless (erase t i) (parent_of t i) u r j o a z in
    let ne : j ≢ i = λ q. true-not-false {b = is_occupied (erase t i) j} (freed-back (erase t i) (parent_of t i) u r j o).0 (rw q (erase-empty t i)) in
    (ne, rw (erase-kids-other t i j (λ q. d.0 (sym q))) at d.1)

-- ---- walks to the anchor

-- u agrees with t on all that Q is_occupied of, and Q goes along the parents
pub ends-move : (t u : Blocks) (Q : ℕ → Type 0)
    → ((k : ℕ) → Q k → is_occupied t k ≡ true → parent_of t k ≢ NONE → Q (parent_of t k))
    → ((k : ℕ) → Q k → (is_occupied u k ≡ is_occupied t k) × (is_active u k ≡ is_active t k) × (parent_of u k ≡ parent_of t k))
    → (j : ℕ) (a : Anchor) → Q j → Ends t j a → Ends u j a
ends-move t u Q down same j a q (at-active k o h) = let s = same j q in at-active k (s.0 ∙ o) (s.1 ∙ h)
ends-move t u Q down same j a q (at-root k o h n) = let s = same j q in at-root k (s.0 ∙ o) (s.1 ∙ h) (s.2 ∙ n)
ends-move t u Q down same j a q (goes_on k o h n x) =
    let s = same j q in
    goes_on k {a = a} (s.0 ∙ o) (s.1 ∙ h) (rw s.2 n) (rw s.2 (ends-move t u Q down same (parent_of t j) a (down j q o n) x))

-- tables that agree in all that a walk reads
pub ends_same : (t u : Blocks) → ((k : ℕ) → (is_occupied u k ≡ is_occupied t k) × (is_active u k ≡ is_active t k) × (parent_of u k ≡ parent_of t k)) → (j : ℕ) (a : Anchor) → Ends t j a → Ends u j a
ends_same t u same j a x = ends-move t u (λ _. Unit {0}) (λ _ _ _ _. tt) (λ k _. same k) j a tt x

pub freed_ends : (t : Blocks) (i : ℕ) (u : Blocks) → Freed t i u → (j : ℕ) (a : Anchor) → is_occupied u j ≡ true → Ends t j a → Ends u j a
freed_ends t i u (off t' i' e) j a o x = x
freed_ends t i u (keeps t' i' c e h) j a o x = ends_same t (set_count t i c) (λ k. (refl, refl, refl)) j a x
freed_ends t i u (frees t' i' u' e b h r) j a o x = let w = erase-but t i in
    freed_ends (erase t i) (parent_of t i) u r j a o
    (ends-move t (erase t i) (λ k. k ≢ i)
    (λ k _ ok _. childless t i k h ok)
    (λ k ne. (but-occupied t (erase t i) i w k ne, but-chain t (erase t i) i w k ne, but-parent t (erase t i) i w k ne))
    j a (λ q. true-not-false {b = is_occupied (erase t i) j} (freed-back (erase t i) (parent_of t i) u r j o).0 (rw q (erase-empty t i))) x)

pub freed-size : (t : Blocks) (i : ℕ) (u : Blocks) → Freed t i u → size u ≡ size t
freed-size t i u (off t' i' e) = refl
freed-size t i u (keeps t' i' c e h) = refl
freed-size t i u (frees t' i' u' e b h r) = freed-size (erase t i) (parent_of t i) u r ∙ (erase-but t i).sizes
