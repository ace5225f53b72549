-- What a loop over the tables keeps: the lengths of the fields that it may write, and what its first turns have made.
use mathlib.Core.Path.{◌≡◌, ap}
use Prim.Native.Nat.{ℕ, ◌+◌, ◌≤◌}
use lib.ListN.{length}
use Rattle.rules.specs.Common.{in_order}
use Rattle.rules.specs.Records.{Blocks, Heads, Tables, Caches}
use Rattle.rules.proofs.Search.{in-order-then}

pub record SameBlocks (b was : Blocks) : Type 0 where
  pub hashes : length b.hashes ≡ length was.hashes
  pub parents : length b.parents ≡ length was.parents
  pub sequences : length b.sequences ≡ length was.sequences
  pub counts : length b.counts ≡ length was.counts
  pub flags : length b.flags ≡ length was.flags

pub record SameHeads (h was : Heads) : Type 0 where
  pub tips : length h.tips ≡ length was.tips
  pub tails : length h.tails ≡ length was.tails
  pub missing : length h.missing ≡ length was.missing
  pub requested : length h.requested ≡ length was.requested
  pub arrivals : length h.arrivals ≡ length was.arrivals
  pub connected : length h.connected ≡ length was.connected

pub record SameLengths (t was : Tables) : Type 0 where
  pub blocks : SameBlocks t.blocks was.blocks
  pub heads : SameHeads t.heads was.heads

pub record SameCaches (c was : Caches) : Type 0 where
  pub tails : length c.tails ≡ length was.tails
  pub missing : length c.missing ≡ length was.missing
  pub requested : length c.requested ≡ length was.requested
  pub connected : length c.connected ≡ length was.connected

-- k of m turns are done: the lengths are what they were, and `Done` says what has been made
pub record Turned (k m : ℕ) (Lengths Done : Type 0) : Type 0 where
  pub within : k ≤ m
  pub lengths : Lengths
  pub done : Done

-- of tables whose blocks stay
pub on-heads : {b : Blocks} {h g : Heads} → h ≡ g → ◌≡◌ {A = Tables} (record { blocks = b; heads = h }) (record { blocks = b; heads = g })
on-heads {b = b} e = ap (λ (x : Heads). record { blocks = b; heads = x }) e

-- one turn more over the heads of such tables
pub heads-then : (act : ℕ → Heads → Heads) (k : ℕ) (b : Blocks) (was h : Heads) (t : Tables)
    → h ≡ act k t.heads → t ≡ record { blocks = b; heads = in_order act k was }
    → ◌≡◌ {A = Tables} (record { blocks = b; heads = h }) (record { blocks = b; heads = in_order act (k + 1) was })
heads-then act k b was h t e d = on-heads (in-order-then act k was t.heads h e (ap (λ (x : Tables). x.heads) d))
