-- What a trial prints at the end (01, "One trial whole"): B slot sequence parent count active, for each block; H slot tip
-- C-or-S anchor, for each head.
use Rattle.std.specs.Prelude.{List, [], ◌++◌, ℕ, zero, suc, if◌then◌else◌}
use Rattle.rules.specs.Kinds.{BlockSlot, HeadSlot}
use Rattle.rules.specs.Records.{slots_of, sequence_at, parent_at, count_at, tip_at, tail_at, occupied, used, active, is_connected}
use Rattle.trial_lines.specs.Writing.{block_line, head_line}

-- the B line of a slot; an empty one has none
unfoldable pub block_shown : (parents sequences counts flags : List ℕ) (slot : BlockSlot) → List ℕ
block_shown parents sequences counts flags slot =
    if occupied sequences slot
    then block_line slot (sequence_at sequences slot) (parent_at parents slot) (count_at counts slot) (active flags slot)
    else []

-- the H line of a head in use; its anchor is its tail or connection slot
unfoldable pub head_shown : (tips tails connected : List ℕ) (head : HeadSlot) → List ℕ
head_shown tips tails connected head =
    if used tips head then head_line head (tip_at tips head) (is_connected connected head) (tail_at tails head) else []

-- the lines of the slots below n, from 0 up
unfoldable pub lines_below : (shown : ℕ → List ℕ) (n : ℕ) → List ℕ
lines_below shown zero = []
lines_below shown (suc n) = lines_below shown n ++ shown n

abbrev pub blocks_shown : (parents sequences counts flags : List ℕ) → List ℕ
blocks_shown parents sequences counts flags = lines_below (block_shown parents sequences counts flags) (slots_of sequences)

abbrev pub heads_shown : (tips tails connected : List ℕ) → List ℕ
heads_shown tips tails connected = lines_below (head_shown tips tails connected) (slots_of tips)

-- the blocks, then the heads
unfoldable pub listing_of : (parents sequences counts flags tips tails connected : List ℕ) → List ℕ
listing_of parents sequences counts flags tips tails connected =
    blocks_shown parents sequences counts flags ++ heads_shown tips tails connected
