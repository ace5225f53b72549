-- Bit 0.
use Rattle.std.proofs.Common.{rules}
use Rattle.rules.specs.Records.{is_connected}
use Rattle.heads.proofs.is_connected.Goals as goal

pub returns : goal.returns
unfolding is_connected
returns c = search rules
