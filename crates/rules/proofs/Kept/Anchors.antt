-- A head whose anchor is kept right is anchored as the promises say, and the other way round.
use mathlib.Core.Path.{◌≡◌}
use mathlib.Core.Bool.{Bool, true, false}
use mathlib.Core.List.{List}
use Prim.Native.Nat.{ℕ, suc, ◌%◌}
use native.Mathlib.Omega.{arith}
use lib.ListN.{get_or}
use borrow.Author.Tests.{eqb-true, eqb-false}
use Rattle.rules.specs.Records.{bit0, head_at}
use Rattle.rules.specs.Anchor.{connection, tail}
use Rattle.rules.specs.Calls.{State}
use Rattle.rules.specs.Promises.{tip, anchor, first, further, MeetsActive, FirstActive, here, after, Anchored}
use Rattle.rules.proofs.Splits.{split}
use Rattle.rules.proofs.Kept.Table.{is_occupied, Shape, Linked}
use Rattle.rules.proofs.Kept.Ends.{Ends, depth}
use Rattle.rules.proofs.Kept.Seats.{kept, kept_by, anchor_of}
use Rattle.rules.proofs.Kept.Walked.{its_blocks, its_heads, walk-there, Met, walk-met, walk_first, walk-last}

first-meets : (s : State) (a : ℕ) (visits : List ℕ) → FirstActive s a visits → MeetsActive s visits
first-meets s a visits (here v x) = (a, first v, x)
first-meets s a visits (after i v n m) = let r = first-meets s a v m in (r.0, further i v r.1, r.2)

module _ (s : State) (k : ℕ) (sh : Shape (its_blocks s)) (l : Linked (its_blocks s)) where
  abbrev flag : Bool
  flag = bit0 (get_or s.tables.heads.connected k 0)

  kept_on : flag ≡ true → kept (its_heads s) k ≡ connection (anchor s k)
  unfolding kept_by head_at anchor_of
  kept_on e = rw e

  kept_off : flag ≡ false → kept (its_heads s) k ≡ tail (anchor s k)
  unfolding kept_by head_at anchor_of
  kept_off e = rw e

  pub ends-anchored : is_occupied (its_blocks s) (tip s k) ≡ true → Ends (its_blocks s) (tip s k) (kept (its_heads s) k) → Anchored s k
  unfolding Met
  ends-anchored o e =
      let t = its_blocks s in
      let (visits, w, n) = walk-there s sh l (suc (depth t (tip s k))) (tip s k) o (omega arith) in
      split flag
      (λ b.
      let m : FirstActive s (anchor s k) visits = walk-met s sh l (tip s k) visits (connection (anchor s k)) w (rw (kept_on b) at e) in
      record {
        visits = visits;
        walk = w;
        connected = (λ _. first-meets s (anchor s k) visits m, λ _. eqb-true (get_or s.tables.heads.connected k 0 % 2) 1 b);
        at_first = λ _. m;
        or_last = λ no. absurd (no (first-meets s (anchor s k) visits m));
      })
      (λ b.
      let m : Met s sh l visits (tail (anchor s k)) = walk-met s sh l (tip s k) visits (tail (anchor s k)) w (rw (kept_off b) at e) in
      record {
        visits = visits;
        walk = w;
        connected = (λ c. absurd (eqb-false (get_or s.tables.heads.connected k 0 % 2) 1 b c), λ c. absurd (m.1 c.0 c.1 c.2));
        at_first = λ c. absurd (m.1 c.0 c.1 c.2);
        or_last = λ _. m.0;
      })

  pub anchored-ends : Anchored s k → Ends (its_blocks s) (tip s k) (kept (its_heads s) k)
  anchored-ends a = split flag
      (λ b. rw (kept_on b) (walk_first s sh l (anchor s k) (tip s k) a.visits a.walk (a.at_first (a.connected.0 (eqb-true (get_or s.tables.heads.connected k 0 % 2) 1 b)))))
      (λ b.
      let no : ¬ (MeetsActive s a.visits) = λ c. eqb-false (get_or s.tables.heads.connected k 0 % 2) 1 b (a.connected.1 c) in
      rw (kept_off b) (walk-last s sh l (anchor s k) (tip s k) a.visits a.walk (λ j m x. no (j, m, x)) (a.or_last no)))
