-- The arrays of a trial as tables, and tables at the front of arrays: their first slots, what stands behind these, one before the other.
use Rattle.std.specs.Prelude.{◌++◌, ◌≡◌, Bool, ℕ, ◌+◌, ◌*◌, min, length, take, drop, Option}
use Rattle.rules.specs.Kinds.{BlockSlot}
use Rattle.rules.specs.Hashes.{hash_length}
use Rattle.rules.specs.Records.{Blocks, Heads, Tables, tables_of}
use Rattle.rules.specs.Calls.{max_blocks, max_heads, state_of}
use Rattle.trial_lines.specs.declared.Line.{Line}
use Rattle.trial_lines.specs.declared.page.Page.{Page}
use Rattle.trial_calls.specs.Calling.{Tells}
use Rattle.trial_fronts.specs.declared.Ends.{Ends}
use Rattle.trial_fronts.specs.declared.Arrays.{Arrays}

-- the tables that fill the arrays
abbrev pub tables_in : (arrays : Arrays) → Tables
tables_in a =
    tables_of a.hashes a.parents a.sequences a.counts a.flags a.tips a.tails a.missing a.requested a.arrivals a.connected

-- ---- how many slots they have

-- one more than tables may have
abbrev pub array_blocks : ℕ
array_blocks = max_blocks + 1

abbrev pub array_heads : ℕ
array_heads = max_heads + 1

pub record SizedBlocks (n : ℕ) (b : Blocks) : Type 0 where
  pub hashes : length b.hashes ≡ n * hash_length
  pub parents : length b.parents ≡ n
  pub sequences : length b.sequences ≡ n
  pub counts : length b.counts ≡ n
  pub flags : length b.flags ≡ n

pub record SizedHeads (m : ℕ) (h : Heads) : Type 0 where
  pub tips : length h.tips ≡ m
  pub tails : length h.tails ≡ m
  pub missing : length h.missing ≡ m * hash_length
  pub requested : length h.requested ≡ m
  pub arrivals : length h.arrivals ≡ m
  pub connected : length h.connected ≡ m

pub record Sized (n m : ℕ) (t : Tables) : Type 0 where
  pub blocks : SizedBlocks n t.blocks
  pub heads : SizedHeads m t.heads

-- ---- their fronts

unfoldable pub front : (n m : ℕ) (t : Tables) → Tables
front n m t =
    let b = t.blocks in
    let h = t.heads in
    tables_of (take (n * hash_length) b.hashes) (take n b.parents) (take n b.sequences) (take n b.counts) (take n b.flags)
    (take m h.tips) (take m h.tails) (take (m * hash_length) h.missing) (take m h.requested) (take m h.arrivals) (take m h.connected)

unfoldable pub behind : (n m : ℕ) (t : Tables) → Tables
behind n m t =
    let b = t.blocks in
    let h = t.heads in
    tables_of (drop (n * hash_length) b.hashes) (drop n b.parents) (drop n b.sequences) (drop n b.counts) (drop n b.flags)
    (drop m h.tips) (drop m h.tails) (drop (m * hash_length) h.missing) (drop m h.requested) (drop m h.arrivals) (drop m h.connected)

unfoldable pub before : (t u : Tables) → Tables
before t u =
    let b = t.blocks in
    let h = t.heads in
    let c = u.blocks in
    let k = u.heads in
    tables_of (b.hashes ++ c.hashes) (b.parents ++ c.parents) (b.sequences ++ c.sequences) (b.counts ++ c.counts) (b.flags ++ c.flags)
    (h.tips ++ k.tips) (h.tails ++ k.tails) (h.missing ++ k.missing) (h.requested ++ k.requested)
    (h.arrivals ++ k.arrivals) (h.connected ++ k.connected)

-- each end is that of the first slots, or of the array where that is shorter
pub record Cut (n m : ℕ) (ends : Ends) (t : Tables) : Type 0 where
  pub hashes : ends.hashes ≡ min (n * hash_length) (length t.blocks.hashes)
  pub parents : ends.parents ≡ min n (length t.blocks.parents)
  pub sequences : ends.sequences ≡ min n (length t.blocks.sequences)
  pub counts : ends.counts ≡ min n (length t.blocks.counts)
  pub flags : ends.flags ≡ min n (length t.blocks.flags)
  pub tips : ends.tips ≡ min m (length t.heads.tips)
  pub tails : ends.tails ≡ min m (length t.heads.tails)
  pub missing : ends.missing ≡ min (m * hash_length) (length t.heads.missing)
  pub requested : ends.requested ≡ min m (length t.heads.requested)
  pub arrivals : ends.arrivals ≡ min m (length t.heads.arrivals)
  pub connected : ends.connected ≡ min m (length t.heads.connected)

-- what a line's call is told of the front of arrays t, which becomes the front of u, and what stands behind is left
abbrev pub TellsFront : (n m : ℕ) (t : Tables) (active_head : BlockSlot) (line : Option Line) (page : Page)
    (u : Tables) (active : BlockSlot) (renewed : Bool) (told : Page) → Type 0
TellsFront n m t active_head line page u active renewed told =
    Tells (state_of (front n m t) active_head) line page (state_of (front n m u) active) renewed told
    × (behind n m u ≡ behind n m t)
