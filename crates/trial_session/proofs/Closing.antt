-- The end of a trial: the last line, then the tables, with room for both.
use Rattle.std.specs.Borrow.{MutBor}
use mathlib.Core.Path.{◌≡◌, refl, ap, ◌∙◌}
use mathlib.Core.List.{List}
use Prim.Native.Nat.{ℕ, ◌≤◌}
use native.Mathlib.Omega.{arith}
use lib.ListN.{length, take, length-take}
use Rattle.rules.specs.Records.{Tables}
use Rattle.trial_lines.specs.Fed.{Leaves}
use Rattle.trial_lines.specs.Printing.{page_at, printed}
use Rattle.trial_lines.specs.declared.page.Page.{Page}
use Rattle.trial_lines.proofs.Printing.{printed_then, printed-front}
use Rattle.trial_fronts.specs.Fronts.{array_blocks, array_heads, Sized, front}
use Rattle.trial_listing.specs.Listing.{listing_of}
use Rattle.trial_session.specs.Session.{Session, last_ended, tables_listed, closing}
use Rattle.trial_session.specs.Held.{Held, state_in, session_in, kept, kept_closed, room, Closes}
use Rattle.trial_session.proofs.Room.{closing-short}

abbrev shown : (n m : ℕ) → Tables → List ℕ
shown n m t =
    listing_of (take n t.blocks.parents) (take n t.blocks.sequences) (take n t.blocks.counts) (take n t.blocks.flags)
    (take m t.heads.tips) (take m t.heads.tails) (take m t.heads.connected)

shown-is : (n m : ℕ) (t : Tables) → shown n m t ≡ tables_listed (front n m t)
unfolding tables_listed front
shown-is n m t = refl

pub closes : (r : MutBor (List ℕ)) (page mid next : Page) (h g : Held) → page ≡ page_at r 0 → length r.now ≡ room
    → Leaves (kept_closed (kept h)) page (kept g) mid
    → next ≡ printed mid (shown g.trial.n g.trial.m g.arrays)
    → Sized array_blocks array_heads g.arrays
    → Closes h r.now g next.bytes.now next.at
unfolding closing front state_in session_in kept_closed
closes r page mid next h g start whole c e z =
    let s = session_in h in
    let f = last_ended s in
    let left = f.after.state.tables in
    let n = g.trial.n in
    let m = g.trial.m in
    let t : front n m g.arrays ≡ left = ap (λ (x : Held × Session). x.1.state.tables) c.after in
    let l : shown n m g.arrays ≡ tables_listed left = shown-is n m g.arrays ∙ ap tables_listed t in
    let b : length left.blocks.sequences ≤ array_blocks =
    rw (← t) (omega (arith, length-take n g.arrays.blocks.sequences, z.blocks.sequences)) in
    let k : length left.heads.tips ≤ array_heads = rw (← t) (omega (arith, length-take m g.arrays.heads.tips, z.heads.tips)) in
    let short = closing-short s array_blocks array_heads b k in
    let whole-said : next ≡ printed (page_at r 0) (closing s) =
    rw (l, c.said, start) at e ∙ printed_then (page_at r 0) f.said (tables_listed left) in
    let p = whole-said ∙ printed-front (page_at r 0) (closing s) refl (omega arith) in
    record {
      held = ap (λ (x : Held × Session). x.0) c.after;
      text = ap (λ (x : Page). x.bytes.now) p;
      end = ap (λ (x : Page). x.at) p;
    }
