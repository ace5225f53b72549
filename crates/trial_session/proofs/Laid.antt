-- Tables at the front of arrays: an array is its front before what stands behind.
use mathlib.Core.Path.{◌≡◌, sym, ◌∙◌}
use Prim.Native.Nat.{ℕ, ◌*◌}
use lib.ListN.{take-append-drop}
use Rattle.rules.specs.Hashes.{hash_length}
use Rattle.rules.specs.Records.{Tables}
use Rattle.trial_fronts.specs.Fronts.{front, behind, before}
use Rattle.trial_fronts.proofs.Lending.{same_tables}

pub front-behind : (n m : ℕ) (t : Tables) → before (front n m t) (behind n m t) ≡ t
unfolding front behind before
front-behind n m t = same_tables (before (front n m t) (behind n m t)) t (record {
  hashes = take-append-drop (n * hash_length) t.blocks.hashes;
  parents = take-append-drop (n) t.blocks.parents;
  sequences = take-append-drop (n) t.blocks.sequences;
  counts = take-append-drop (n) t.blocks.counts;
  flags = take-append-drop (n) t.blocks.flags;
  tips = take-append-drop (m) t.heads.tips;
  tails = take-append-drop (m) t.heads.tails;
  missing = take-append-drop (m * hash_length) t.heads.missing;
  requested = take-append-drop (m) t.heads.requested;
  arrivals = take-append-drop (m) t.heads.arrivals;
  connected = take-append-drop (m) t.heads.connected;
})

-- two arrays with the same front and the same behind
pub laid_same : (n m : ℕ) (t u : Tables) → front n m u ≡ front n m t → behind n m u ≡ behind n m t → u ≡ t
laid_same n m t u e f = sym (front-behind n m u) ∙ rw (e, f) (front-behind n m t)

pub laid-is : (n m : ℕ) (t u after : Tables) → front n m u ≡ after → behind n m u ≡ behind n m t → u ≡ before after (behind n m t)
laid-is n m t u after e f = sym (front-behind n m u) ∙ rw (e, f)
