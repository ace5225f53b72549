-- By the tail, and by which head knows.
use Rattle.std.proofs.Common.{arith, rules}
use Rattle.std.proofs.lemmas.Bool.Decides.{nat_tests}
use Rattle.rules.specs.Caches.{missing_part}
use Rattle.missing_hashes.proofs.Parts.{part-hash, hash-put-back}
use Rattle.missing_hashes.proofs.keep_missing_hash.Goals as goal
use Rattle.missing_hashes.proofs.keep_missing_hash.Goals.{then-ne+else-eq, else-ne}

pub returns-then-eq : goal.returns-then-eq
unfolding missing_part
returns-then-eq c = grind (arith, nat_tests, part-hash, hash-put-back)

-- whichever head was asked, the part that is read is the rule's
pub returns : goal.returns
unfolding missing_part
returns c = elim c.if-ne.branch [ then-ne+else-eq w ↦ search rules | else-ne w ↦ grind (arith, nat_tests) ]
