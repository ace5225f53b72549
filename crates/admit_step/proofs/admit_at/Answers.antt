-- The block, the heads, the tails.
use mathlib.Core.Path.{◌≡◌, refl, ap, ◌∙◌}
use mathlib.Core.List.{List}
use Rattle.std.specs.Prelude.{Option, None, Some}
use Rattle.std.specs.Option.{unwrap_or}
use Prim.Native.Nat.{ℕ}
use Rattle.rules.specs.declared.BlockSlot.{BlockSlot}
use Rattle.rules.specs.Records.{NONE, Blocks, Tables, tables_of}
use Rattle.rules.specs.BlockTable.{find_parent, insert_at}
use Rattle.rules.specs.Admission.{admitted as admitted_rule, refresh_tails}
use Rattle.rules.specs.Answers.{slot_found}
use Rattle.rules.specs.Calls.{State, state_of, new_block, slot_or_none, admit_at}
use Rattle.admit_step.proofs.admit_at.Goals as goal

-- the steps as one, of any tables
steps : (s : State) (b : Blocks) (u v : Tables) (i sequence under : ℕ) (own previous : List ℕ) (parent : Option ℕ) (arrival : ℕ)
    → parent ≡ find_parent s.tables.blocks.hashes s.tables.blocks.sequences sequence previous
    → under ≡ slot_or_none parent
    → b ≡ insert_at s.tables.blocks i (new_block sequence own under)
    → u ≡ admitted_rule (record { blocks = b; heads = s.tables.heads }) i parent previous arrival s.active_head
    → v ≡ refresh_tails u
    → v ≡ admit_at s i sequence own previous arrival
unfolding admit_at
steps s b u v i sequence under own previous parent arrival e f g h k = k ∙ ap refresh_tails (h ∙ rw (g, f, e))

parent-slot : (parent : Option BlockSlot) → (unwrap_or parent (record { 0 = NONE })).0 ≡ slot_or_none (slot_found parent)
parent-slot None = refl
parent-slot (Some slot) = refl

pub returns : goal.returns
returns c =
    let t = tables_of c.args.hashes.now c.args.parents.now c.args.sequences.now c.args.counts.now c.args.flags.now c.args.tips.now c.args.tails.now
    c.args.missing.now c.args.requested.now c.args.arrivals.now c.args.connected.now in
    steps (state_of t c.args.active.0) _ _ _ _ _ _ _ _ _ _ c.find_parent-parent.ensures
    (ap (λ (slot : BlockSlot). slot.0) c.unwrap_or.ensures ∙ parent-slot c.find_parent-parent.result)
    c.insert_at.ensures c.on_block_admitted.ensures c.refresh_tails.ensures
