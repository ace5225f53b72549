-- From the start of a place on, held at the buffer's end, as far as 32 bytes.
use Rattle.std.proofs.Common.{arith, ◌*◌, drop}
use Rattle.std.proofs.lemmas.List.{take_min, drop_min, take_all, length-drop}
use Rattle.missing_hashes.proofs.hash_part.Goals as goal

pub returns : goal.returns
returns c =
    let from = c.args.at * 32 in
    let b = c.args.bytes.now in
    grind (arith, drop_min from b, take_min 32 (drop from b), take_all, length-drop)
