-- The first byte, stored, and the hash.
use Rattle.std.proofs.Common.{rules, arith}
use Rattle.std.proofs.lemmas.Bool.Decides.{nat_tests}
use Rattle.rules.specs.Hashes.{hash_at}
use Rattle.rules.specs.Admission.{misses}
use Rattle.rules.proofs.Hashes.{same-equal}
use Rattle.late_links.proofs.misses.Goals as goal
use Rattle.late_links.proofs.misses.Goals.{then-first_byte-hash, else-first_byte-hash}

pub returns-then-is_stored : goal.returns-then-is_stored
unfolding misses
returns-then-is_stored c = search rules

pub returns-else-is_stored : goal.returns-else-is_stored
unfolding misses
returns-else-is_stored c =
    elim c.if-first_byte-hash.branch [
      | then-first_byte-hash w ↦ search rules
      | else-first_byte-hash w ↦ grind (arith, nat_tests, same-equal (hash_at c.args.missing.now c.args.head.0) c.args.hash)
    ]
