-- What is remembered of the walks to a root: for each slot whether its walk reaches the root, where that is known yet.
use Rattle.std.specs.Prelude.{◌≡◌, Bool, true, false, not, ◌||◌, List, ℕ, eqb, get_or, if◌then◌else◌, Option, None, Some}
use Rattle.rules.specs.Kinds.{BlockSlot}
use Rattle.rules.specs.Records.{NONE, slots_of, parent_at, occupied}
use Rattle.rules.specs.BlockTable.{reaches}
use Rattle.subtree.specs.declared.Mark.{Mark}
use Rattle.subtree.specs.declared.Mark.TheVariants.{Unknown, Misses, Reaches}

abbrev pub is_known : (mark : Mark) → Bool
is_known Unknown = false
is_known Misses = true
is_known Reaches = true

-- what a mark that is known tells: the walk reaches the root
abbrev pub tells : (mark : Mark) → Bool
tells Unknown = false
tells Misses = false
tells Reaches = true

abbrev pub mark_at : (known : List Mark) (i : BlockSlot) → Mark
mark_at known i = get_or known i Unknown

-- the slot after i on a walk, which ends at the root, at a slot of which something is known, at an empty one, and where there is no parent
unfoldable pub above : (parents sequences : List ℕ) (root : BlockSlot) (known : List Mark) (i : BlockSlot) → Option BlockSlot
above parents sequences root known i =
    if eqb i root || is_known (mark_at known i) || not (occupied sequences i) || eqb (parent_at parents i) NONE then None
    else Some (parent_at parents i)

-- what the last slot of a walk tells of it
unfoldable pub told : (root : BlockSlot) (known : List Mark) (i : BlockSlot) → Mark
told root known i =
    if eqb i root then Reaches
    else if is_known (mark_at known i) then mark_at known i
    else Misses

-- what is told of an occupied slot without a walk, where it or its parent is known
unfoldable pub at_once : (parents : List ℕ) (root : BlockSlot) (known : List Mark) (i : BlockSlot) → Mark
at_once parents root known i =
    if is_known (mark_at known i) then mark_at known i
    else if eqb i root then Reaches
    else if eqb (parent_at parents i) NONE then Misses
    else mark_at known (parent_at parents i)

-- the root is there, and what is known is what the rule gives
pub record Right (parents sequences : List ℕ) (root : ℕ) (known : List Mark) : Type 0 where
  pub there : occupied sequences root ≡ true
  pub right : (i : ℕ) → is_known (mark_at known i) ≡ true → reaches parents sequences root (slots_of sequences) i ≡ tells (mark_at known i)
