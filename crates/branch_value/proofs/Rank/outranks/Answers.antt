-- The first comparison that is not equal decides; hashes are of one length, and the lower one is the greater rank.
use Rattle.std.proofs.Common.{◌≡◌, ℕ, ◌||◌, ◌&&◌, ltb, eqb, List, [], ◌∷◌, length, Ordering, is_gt, refl, arith}
use Rattle.std.specs.Ordering.{nat_cmp, ordering_then}
use Rattle.std.specs.Cmp.Lexicographic.{slice_cmp}
use Rattle.std.proofs.lemmas.Bool.Decides.{nat_tests}
use Rattle.rules.specs.Hashes.{hash_less}
use Rattle.rules.specs.Rank.{outranks}
use Rattle.branch_value.proofs.Rank.outranks.Goals as goal

in-turn : (v w l m : ℕ) (o : Ordering) → is_gt (ordering_then (ordering_then (nat_cmp v w) (nat_cmp l m)) o)
    ≡ (ltb w v || (eqb v w && (ltb m l || (eqb l m && is_gt o))))
in-turn v w l m o = grind (arith, nat_tests)

hash-greater : (xs ys : List ℕ) → length xs ≡ length ys → is_gt (slice_cmp nat_cmp ys xs) ≡ hash_less xs ys
unfolding hash_less
hash-greater [] [] e = refl
hash-greater [] (y ∷ ys) e = absurd (omega arith)
hash-greater (x ∷ xs) [] e = absurd (omega arith)
hash-greater (x ∷ xs) (y ∷ ys) e = let h = hash-greater xs ys (omega arith) in grind (arith, nat_tests)

pub returns : goal.returns
unfolding outranks
returns c =
    let a = c.args.self in
    let b = c.args.other in
    let turns = in-turn a.value b.value a.len b.len c.cmp-3.result in
    let hashes = hash-greater a.hash b.hash (omega arith) in
    cc
