-- The six stores.
use Rattle.std.proofs.Common.{rules}
use Rattle.rules.specs.Records.{put_head}
use Rattle.heads.proofs.put_head.Goals as goal

pub returns : goal.returns
unfolding put_head
returns c = search rules
