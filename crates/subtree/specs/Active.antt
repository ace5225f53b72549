-- Active blocks in a list.
use Rattle.std.specs.Prelude.{Bool, List, ℕ}
use Rattle.std.specs.List.{list_any}
use Rattle.rules.specs.Kinds.{BlockSlot}
use Rattle.rules.specs.Records.{active}

abbrev pub any_active : (flags : List ℕ) (listed : List BlockSlot) → Bool
any_active flags listed = list_any (active flags) listed
