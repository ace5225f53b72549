-- Promotion (01, "Promotion"): flag and status Active, then all caches.
use Rattle.std.specs.Prelude.{true}
use Rattle.rules.specs.Kinds.{BlockSlot}
use Rattle.rules.specs.Records.{Blocks, Tables, status_number, with_flags}
use Rattle.rules.specs.BlockTable.{set_on_active_chain, set_status}
use Rattle.rules.specs.Caches.{recompute_heads}
use Rattle.rules.specs.declared.BlockStatus.TheVariants.{Active}

unfoldable pub activate : (b : Blocks) (i : BlockSlot) → Blocks
activate b i =
    with_flags b (set_status b.sequences (set_on_active_chain b.sequences b.flags i true) i (status_number Active))

unfoldable pub promoted : (t : Tables) (i : BlockSlot) → Tables
promoted t i = record { blocks = activate t.blocks i; heads = recompute_heads (activate t.blocks i) t.heads }
