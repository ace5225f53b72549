-- The list that remove marks stands at the front of a list that can hold any.
use mathlib.Core.Path.{◌≡◌, ap, ◌∙◌}
use mathlib.Core.Bool.{true}
use mathlib.Core.List.{List}
use Prim.Native.Nat.{ℕ, ◌+◌, ◌-◌, ◌≤◌, min}
use native.Mathlib.Omega.{arith}
use lib.ListN.{length, take, drop}
use lib.Seq.{sets, sets-eq, take-append_seam}
use Rattle.rules.specs.Records.{Tables, slots_of, occupied}
use Rattle.rules.specs.BlockTable.{in_subtree, mark_subtree}
use Rattle.rules.specs.Calls.{max_blocks, shaped, holds_active}
use Rattle.rules.proofs.Splits.{split}
use Rattle.rules.proofs.Search.{all-few}
use Rattle.rules.proofs.Kept.Shaped.{shaped-shape}
use Rattle.subtree.specs.Active.{any_active}
use Rattle.subtree.proofs.Active.{marked-active}

mark-few : (parents sequences : List ℕ) (root : ℕ) → length (mark_subtree parents sequences root) ≤ length sequences
unfolding mark_subtree slots_of
mark-few parents sequences root = split (occupied sequences root)
    (λ e. rw e (let f = all-few (in_subtree parents sequences root) (slots_of sequences) in omega (arith, f)))
    (λ e. rw e (omega arith))

front : (l vs : List ℕ) → length vs ≤ length l → take (length vs) (sets l 0 vs) ≡ vs
front l vs h =
    let h' : 0 + length vs ≤ length l = omega arith in
    ap (take (length vs)) (sets-eq vs l 0 h') ∙ take-append_seam vs (drop (0 + length vs) l)

-- the front is the subtree's list, and an active block is in it where the rule finds one
pub marked-listed : (t : Tables) (root count end : ℕ) (start marked : List ℕ) → shaped t ≡ true → occupied t.blocks.sequences root ≡ true
    → length start ≡ max_blocks → count ≡ length (mark_subtree t.blocks.parents t.blocks.sequences root) → end ≡ min count max_blocks
    → marked ≡ sets start 0 (mark_subtree t.blocks.parents t.blocks.sequences root)
    → (take (end - 0) (drop 0 marked) ≡ mark_subtree t.blocks.parents t.blocks.sequences root)
    × (any_active t.blocks.flags (mark_subtree t.blocks.parents t.blocks.sequences root) ≡ holds_active t.blocks root)
marked-listed t root count end start marked e o l c d m =
    let list = mark_subtree t.blocks.parents t.blocks.sequences root in
    let f = mark-few t.blocks.parents t.blocks.sequences root in
    let small = (shaped-shape t e).0.small in
    let q : end - 0 ≡ length list = omega (arith, f, small, c, d) in
    let h : length list ≤ length start = omega (arith, f, small, l) in
    (rw (q, m) (front start list h), marked-active t.blocks root o)
