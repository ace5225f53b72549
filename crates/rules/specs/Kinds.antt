-- The kinds of number (01, "Records"). To the rules each is a number; the code keeps them apart by types of their own.
use Rattle.std.specs.Prelude.{List, ℕ}

-- a place in the block table, or NONE_REF
abbrev pub BlockSlot : Type 0
BlockSlot = ℕ

-- a place in the head table
abbrev pub HeadSlot : Type 0
HeadSlot = ℕ

abbrev pub Sequence : Type 0
Sequence = ℕ

-- a clock's time, or a span of it, in ticks
abbrev pub Time : Type 0
Time = ℕ

-- 32 bytes
abbrev pub Hash : Type 0
Hash = List ℕ
