-- With another tail no head waits; with this tail a stored one does.
use Rattle.std.proofs.Common.{arith, ◌≡◌, ◌≢◌, ℕ, false, List}
use Rattle.std.proofs.lemmas.Bool.Decides.{nat_tests}
use Rattle.rules.specs.Records.{tail_at, stored}
use Rattle.rules.specs.Caches.{waits_at}

module _ (tips tails connected : List ℕ) (i k : ℕ) where
  pub waits-elsewhere : tail_at tails k ≢ i → waits_at tips tails connected i k ≡ false
  unfolding waits_at
  waits-elsewhere ne = grind (arith, nat_tests)

  pub waits-stored : tail_at tails k ≡ i → waits_at tips tails connected i k ≡ stored tips connected k
  unfolding waits_at
  waits-stored e = grind (arith, nat_tests)
