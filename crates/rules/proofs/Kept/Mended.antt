-- Restart works counts and heads out from the blocks alone, whatever stood in them.
use mathlib.Core.Logic.{◌≢◌}
use Prim.Native.Nat.{ℕ}
use Rattle.rules.specs.Records.{NONE, Tables}
use Rattle.rules.specs.Rebuild.{restarted}
use Rattle.rules.specs.Calls.{State, keeping, restart, step}
use Rattle.rules.specs.Promises.{Occupied, RestartMends}
use Rattle.rules.proofs.Kept.Table.{occupied-ne, ne-occupied, occupied-real, none-empty}
use Rattle.rules.proofs.Kept.Rebuild.{Trunk, restart-done}
use Rattle.rules.proofs.Kept.Walked.{its_blocks, its_heads}
use Rattle.rules.proofs.Kept.Shaped.{shaped-shape}
use Rattle.rules.proofs.Kept.Border.{line-chained, tree-linked, tree-voids, good-sound}
use Rattle.rules.proofs.Kept.Victims.{restart-finds}
use Rattle.rules.proofs.Kept.Went.{active-stays, line_on, active-head-on, names-on}

pub restart-mends : RestartMends
unfolding step restart
restart-mends s z few now =
    let t = its_blocks s in
    let (sh, ro) = shaped-shape s.tables z.shape in
    let b : Trunk t s.active_head = record {
      shape = sh;
      linked = tree-linked s z;
      voids = tree-voids s z;
      chained = line-chained s z.line;
      few = λ i o. few i (occupied-ne t i o);
    } in
    let d = restart-done t (its_heads s) s.active_head now ro b in
    let w : Tables = restarted s.tables now s.active_head in
    let u : State = keeping s w in
    let free = none-empty t sh in
    let old : (i : ℕ) → Occupied u i → i ≢ NONE = λ i o. occupied-real w.blocks i d.0.frame.counts.shape (ne-occupied w.blocks i o) in
    let y = d.1 in
    record {
      sound = rw z.shape (good-sound u d.0 (line_on s z.line sh w NONE free y d.0.frame.voids) (active-head-on s z.line sh w NONE free y z.active_head) (names-on s z.line sh w NONE free y old z.names));
      stays = λ i a. rw z.shape (active-stays s z.line sh w NONE free y i a);
      victims = restart-finds s ro b now;
    }
