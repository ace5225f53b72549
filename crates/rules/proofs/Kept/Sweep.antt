-- Removal's work on the blocks: the marked ones are freed, and the counts are set.
use mathlib.Core.Path.{◌≡◌, refl, sym, ◌∙◌}
use mathlib.Core.Logic.{◌≢◌}
use mathlib.Core.Bool.{true, false}
use mathlib.Core.List.{List, [], ◌∷◌}
use Prim.Native.Nat.{ℕ, zero, suc, ◌≤◌, ◌<◌, max, min}
use native.Mathlib.Omega.{arith}
use lib.ListN.{length, length-set}
use lib.Seq.{get_or-set_same, get_or-set_other}
use borrow.Author.Tests.{eq-eqb, ne_eqb}
use Rattle.rules.specs.Common.{in_order}
use Rattle.rules.specs.Records.{Blocks, occupied, count_at, slots_of, block_at, erase}
use Rattle.rules.specs.BlockTable.{child_of, children, delete, max_count}
use Rattle.rules.specs.Removal.{recount, recount_all, recounted, listed, free_all}
use Rattle.rules.specs.Promises.{children_of}
use Rattle.rules.proofs.Splits.{split, same?, true-not-false}
use Rattle.rules.proofs.Kept.Table.{size, is_occupied, Shape, Linked, Kept, occupied-lt, kids-slots}
use Rattle.rules.proofs.Kept.Slots.{same_block, But, erase-but, erase-empty, Voids, erase-voids}

-- ---- the listed blocks are freed

pub record Swept (l : List ℕ) (t u : Blocks) : Type 0 where
  pub sizes : size u ≡ size t
  pub shapes : Shape t → Shape u
  pub voids : Shape t → Voids t → Voids u
  pub gone : (j : ℕ) → listed l j ≡ true → is_occupied u j ≡ false
  pub stay : (j : ℕ) → listed l j ≡ false → block_at u j ≡ block_at t j

module _ (t : Blocks) (i : ℕ) where
  delete-yes : is_occupied t i ≡ true → delete t i ≡ erase t i
  unfolding delete
  delete-yes o = rw o

  delete-no : is_occupied t i ≡ false → delete t i ≡ t
  unfolding delete
  delete-no o = rw o

  delete-but : But t (delete t i) i
  delete-but = split (is_occupied t i)
      (λ o. rw (delete-yes o) (erase-but t i))
      (λ o. rw (delete-no o) (record { shapes = λ s. s; sizes = refl; rest = λ _ _. refl }))

  delete-empty : is_occupied (delete t i) i ≡ false
  delete-empty = split (is_occupied t i)
      (λ o. rw (delete-yes o) (erase-empty t i))
      (λ o. rw (delete-no o) o)

  delete-voids : Shape t → Voids t → Voids (delete t i)
  delete-voids s v = split (is_occupied t i)
      (λ o. rw (delete-yes o) (erase-voids t i s o v))
      (λ o. rw (delete-no o) v)

listed_here : (i : ℕ) (l : List ℕ) (j : ℕ) → i ≡ j → listed (i ∷ l) j ≡ true
unfolding listed
listed_here i l j e = rw (eq-eqb i j e)

listed-there : (i : ℕ) (l : List ℕ) (j : ℕ) → i ≢ j → listed (i ∷ l) j ≡ listed l j
unfolding listed
listed-there i l j e = rw (ne_eqb i j e)

sweep-next : (i : ℕ) (l : List ℕ) (t u : Blocks) → Swept l (delete t i) u → Swept (i ∷ l) t u
sweep-next i l t u w = let b = delete-but t i in
    record {
      sizes = w.sizes ∙ b.sizes;
      shapes = λ s. w.shapes (b.shapes s);
      voids = λ s v. w.voids (b.shapes s) (delete-voids t i s v);
      gone = λ j m. split (listed l j)
          (λ n. w.gone j n)
          (λ n. same? i j
          (λ q. (same_block (delete t i) u j (w.stay j n)).hold ∙ rw (← q) (delete-empty t i))
          (λ ne. true-not-false {b = listed l j} (sym (listed-there i l j ne) ∙ m) n));
      stay = λ j m.
          let ne : i ≢ j = λ q. true-not-false {b = listed (i ∷ l) j} (listed_here i l j q) m in
          w.stay j (sym (listed-there i l j ne) ∙ m) ∙ b.rest j (λ q. ne (sym q));
    }

pub swept : (l : List ℕ) (t : Blocks) → Swept l t (free_all l t)
unfolding free_all listed
swept [] t = record { sizes = refl; shapes = λ s. s; voids = λ _ v. v; gone = λ j m. true-not-false {b = false} m refl; stay = λ _ _. refl }
swept (i ∷ l) t = sweep-next i l t (free_all l (delete t i)) (swept l (delete t i))

-- ---- the counts are set

module _ (p q : List ℕ) where
  abbrev tally : ℕ → List ℕ → List ℕ
  tally n c = in_order (recount p q) n c

  recount-length : (i : ℕ) (c : List ℕ) → length (recount p q i c) ≡ length c
  unfolding recount
  recount-length i c = split (occupied q i) (λ o. rw o (length-set c i (min max_count (max 1 (children p q i))))) (λ o. rw o refl)

  recount-other : (i j : ℕ) (c : List ℕ) → j ≢ i → count_at (recount p q i c) j ≡ count_at c j
  unfolding recount
  recount-other i j c ne = split (occupied q i) (λ o. rw o (get_or-set_other c i j (min max_count (max 1 (children p q i))) 0 ne)) (λ o. rw o refl)

  recount-here : (i : ℕ) (c : List ℕ) → i < length c → occupied q i ≡ true → count_at (recount p q i c) i ≡ min max_count (max 1 (children p q i))
  unfolding recount
  recount-here i c l o = rw o (get_or-set_same c i (min max_count (max 1 (children p q i))) 0 l)

  recount-empty : (i : ℕ) (c : List ℕ) → occupied q i ≡ false → recount p q i c ≡ c
  unfolding recount
  recount-empty i c o = rw o

  tally-length : (n : ℕ) (c : List ℕ) → length (tally n c) ≡ length c
  unfolding in_order
  tally-length zero c = refl
  tally-length (suc n) c = recount-length n (tally n c) ∙ tally-length n c

  tally-empty : (n j : ℕ) (c : List ℕ) → occupied q j ≡ false → count_at (tally n c) j ≡ count_at c j
  unfolding in_order
  tally-empty zero j c o = refl
  tally-empty (suc n) j c o = same? j n
      (λ e. rw (recount-empty n (tally n c) (rw e at o)) (tally-empty n j c o))
      (λ ne. recount-other n j (tally n c) ne ∙ tally-empty n j c o)

  tally-set : (n j : ℕ) (c : List ℕ) → j < n → j < length c → occupied q j ≡ true → count_at (tally n c) j ≡ min max_count (max 1 (children p q j))
  unfolding in_order
  tally-set zero j c l k o = absurd (omega arith)
  tally-set (suc n) j c l k o = same? j n
      (λ e. rw e (recount-here n (tally n c) (rw (tally-length n c) (rw e at k)) (rw e at o)))
      (λ ne. recount-other n j (tally n c) ne ∙ tally-set n j c (omega arith) k o)

module _ (t : Blocks) (s : Shape t) where
  pub kids-are : (i : ℕ) → children t.parents t.sequences i ≡ children_of t i
  unfolding children child_of children_of occupied
  kids-are i = rw (kids-slots t s)

  pub recounted-kids : (i : ℕ) → children_of (recounted t) i ≡ children_of t i
  unfolding children_of
  recounted-kids i = refl

  recounted-shape : Shape (recounted t)
  unfolding recount_all
  recounted-shape = record {
    some = s.some;
    small = s.small;
    parents = s.parents;
    counts = tally-length t.parents t.sequences (slots_of t.sequences) t.counts ∙ s.counts;
    flagged = s.flagged;
    hashed = s.hashed;
  }

  pub recounted-voids : Voids t → Voids (recounted t)
  unfolding block_at recount_all
  recounted-voids v j e = rw (tally-empty t.parents t.sequences (slots_of t.sequences) j t.counts e) (v j e)

  -- the counts are right where no block has more than 255 children
  pub recounted-kept : Linked t → ((i : ℕ) → is_occupied t i ≡ true → children_of t i ≤ max_count) → Kept (recounted t)
  unfolding recount_all
  recounted-kept l few = record {
    shape = recounted-shape;
    linked = l;
    counted = λ j o a.
        let lj = occupied-lt t j o in
        let k = kids-slots t s in
        let c = s.counts in
        rw (tally-set t.parents t.sequences (slots_of t.sequences) j t.counts (omega arith) (omega arith) o, kids-are j, recounted-kids j) (omega (arith, few j o));
  }
