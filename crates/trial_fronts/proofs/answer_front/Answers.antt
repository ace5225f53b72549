-- Each front goes, and comes back as long as it went.
use native.Mathlib.Omega.{arith}
use Rattle.trial_fronts.proofs.Lending.{came, tells-front}
use Rattle.trial_fronts.proofs.answer_front.Goals as goal

pub returns : goal.returns
returns c =
    let e = c.cut-end.ensures in
    tells-front c.answer.ensures (record {
      hashes = came _ _ _ _ e.hashes (omega arith);
      parents = came _ _ _ _ e.parents (omega arith);
      sequences = came _ _ _ _ e.sequences (omega arith);
      counts = came _ _ _ _ e.counts (omega arith);
      flags = came _ _ _ _ e.flags (omega arith);
      tips = came _ _ _ _ e.tips (omega arith);
      tails = came _ _ _ _ e.tails (omega arith);
      missing = came _ _ _ _ e.missing (omega arith);
      requested = came _ _ _ _ e.requested (omega arith);
      arrivals = came _ _ _ _ e.arrivals (omega arith);
      connected = came _ _ _ _ e.connected (omega arith);
    })
