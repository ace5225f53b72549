-- Where a head slot is empty, an insertion of a head frees no block, and the slots named as parents stay.
use Rattle.std.specs.Prelude.{is_some}
use mathlib.Core.Path.{◌≡◌, refl, sym, ap, ◌∙◌}
use mathlib.Core.Bool.{true}
use mathlib.Core.List.{List}
use Prim.Native.Nat.{ℕ}
use lib.ListN.{length}
use Rattle.rules.specs.Records.{Blocks, Tables}
use Rattle.rules.specs.Admission.{first_empty, seat_head, make_room, insert_head}
use Rattle.rules.proofs.Splits.{option?, true-not-false}
use Rattle.named_parents.specs.Named.{named_parents}

seat-blocks : (t : Tables) (tip arriving : ℕ) (previous : List ℕ) (arrival : ℕ)
    → (seat_head t tip arriving previous arrival).blocks ≡ t.blocks
unfolding seat_head
seat-blocks t tip arriving previous arrival = option? (first_empty t.heads.tips)
    (λ e. rw (e, seat_head) refl)
    (λ k e. rw (e, seat_head) refl)

room-blocks : (t : Tables) (active_head : ℕ) → is_some (first_empty t.heads.tips) ≡ true → (make_room t active_head).blocks ≡ t.blocks
unfolding make_room
room-blocks t active_head f = option? (first_empty t.heads.tips)
    (λ e. true-not-false f (rw e refl))
    (λ k e. rw (e, make_room) refl)

insert-blocks : (t : Tables) (tip arriving : ℕ) (previous : List ℕ) (arrival active_head : ℕ) → is_some (first_empty t.heads.tips) ≡ true
    → (insert_head t tip arriving previous arrival active_head).blocks ≡ t.blocks
unfolding insert_head
insert-blocks t tip arriving previous arrival active_head f =
    seat-blocks (make_room t active_head) tip arriving previous arrival ∙ room-blocks t active_head f

pub names-stay : (t u : Tables) (tip arriving : ℕ) (previous : List ℕ) (arrival active_head : ℕ) (named : List ℕ)
    → u ≡ insert_head t tip arriving previous arrival active_head → is_some (first_empty t.heads.tips) ≡ true
    → named ≡ named_parents t.blocks.parents t.blocks.sequences (length named)
    → named ≡ named_parents u.blocks.parents u.blocks.sequences (length named)
names-stay t u tip arriving previous arrival active_head named e f q =
    let b : u.blocks ≡ t.blocks = ap (λ (v : Tables). v.blocks) e ∙ insert-blocks t tip arriving previous arrival active_head f in
    q ∙ ap (λ (v : Blocks). named_parents v.parents v.sequences (length named)) (sym b)
