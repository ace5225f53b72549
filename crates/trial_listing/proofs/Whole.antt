-- What 01's own trial prints at the end ("One trial whole"), from the tables that it leaves.
use mathlib.Core.Path.{◌≡◌, refl}
use mathlib.Core.List.{List, [], ◌∷◌}
use Prim.Native.Nat.{ℕ}
use Rattle.rules.specs.Records.{NONE, slots_of, occupied, used, active, is_connected}
use Rattle.trial_lines.specs.Text.{bytes_from, bytes}
use Rattle.trial_lines.specs.Writing.{digits_in, digits, field, reference, block_line, head_line}
use Rattle.trial_listing.specs.Listing.{block_shown, head_shown, lines_below, listing_of}

listed : List ℕ
listed =
    listing_of
    (NONE ∷ NONE ∷ 0 ∷ NONE ∷ [])
    (5 ∷ NONE ∷ 6 ∷ 7 ∷ [])
    (1 ∷ 0 ∷ 1 ∷ 1 ∷ [])
    (5 ∷ 0 ∷ 0 ∷ 0 ∷ [])
    (3 ∷ 2 ∷ [])
    (3 ∷ 0 ∷ [])
    (0 ∷ 1 ∷ [])

as_said : listed ≡ bytes "B 0 5 - 1 1\nB 2 6 0 1 0\nB 3 7 - 1 0\nH 0 3 S 3\nH 1 2 C 0\n"
unfolding bytes_from bytes listed listing_of lines_below block_shown head_shown block_line head_line field reference digits digits_in slots_of occupied used active is_connected
as_said = refl
