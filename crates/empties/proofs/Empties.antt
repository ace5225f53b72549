-- The lengths of shaped tables are those of the empty tables.
use mathlib.Core.Path.{◌≡◌}
use mathlib.Core.Bool.{true}
use lib.ListN.{length}
use Rattle.rules.specs.Records.{Tables, empty_blocks, empty_heads, blocks_emptied, heads_emptied}
use Rattle.rules.specs.Calls.{shaped}
use Rattle.rules.proofs.Kept.Shaped.{shaped-shape}

module _ (t : Tables) (e : shaped t ≡ true) where
  pub blocks-empty : blocks_emptied t.blocks ≡ empty_blocks (length t.blocks.parents)
  unfolding empty_blocks
  blocks-empty = let s = (shaped-shape t e).0 in rw (s.hashed, s.parents, s.counts, s.flagged)

  pub heads-empty : heads_emptied t.heads ≡ empty_heads (length t.heads.tips)
  unfolding empty_heads
  heads-empty = let r = (shaped-shape t e).1 in rw (r.tailed, r.missed, r.asked, r.arrived, r.flagged)
