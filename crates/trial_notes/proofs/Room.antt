-- How much is noted: 96 bytes at most for each byte that comes, and for a last line.
use mathlib.Core.Path.{◌≡◌, refl, ap, ◌∙◌}
use mathlib.Core.List.{List, [], ◌∷◌, ◌++◌}
use Prim.Native.Nat.{ℕ, ◌*◌, ◌≤◌}
use native.Mathlib.Omega.{arith}
use lib.Dec.{eqb}
use lib.ListN.{length, take, drop, length-append, length-take}
use Rattle.std.specs.Borrow.{MutBor}
use Rattle.rules.proofs.Splits.{split}
use Rattle.trial_lines.specs.Begun.{has_begun, chunk_most}
use Rattle.trial_lines.specs.Fed.{Fed, Leaves, fed}
use Rattle.trial_lines.specs.Printing.{page_at, printed}
use Rattle.trial_lines.specs.declared.page.Page.{Page}
use Rattle.trial_lines.proofs.Printing.{printed-front}
use Rattle.trial_notes.specs.Left.{room, Fills, Ends}
use Rattle.trial_notes.specs.Notes.{begun_fault, line_noted, noted_byte, noted, last_noted}
use Rattle.trial_notes.specs.declared.Noting.{Noting}
use Rattle.trial_notes.proofs.Pieces.{note-short}

line-short : (z : Noting) → length (line_noted z) ≤ 96
unfolding line_noted
line-short z = note-short z.number (begun_fault z.begun)

byte-short : (z : Noting) (byte : ℕ) → length (noted_byte z byte).said ≤ 96
unfolding noted_byte
byte-short z byte = split (eqb byte 10) (λ e. rw e (line-short z)) (λ e. rw e (omega arith))

noted-short : (z : Noting) (bytes : List ℕ) → length (noted z bytes).said ≤ 96 * length bytes
unfolding fed
noted-short z [] = omega arith
noted-short z (byte ∷ bytes) =
    let f = noted_byte z byte in
    omega (arith, length-append f.said (noted f.after bytes).said, byte-short z byte, noted-short f.after bytes)

last-short : (z : Noting) → length (last_noted z) ≤ 96
unfolding last_noted
last-short z = split (has_begun z.begun) (λ e. rw e (line-short z)) (λ e. rw e (omega arith))

-- ---- with room for all

-- a page of a buffer, from its start
pub fills : (r : MutBor (List ℕ)) (page g : Page) (f : Fed Noting) (z : Noting) → page ≡ page_at r 0 → length f.said ≤ length r.now
    → Leaves f page z g → Fills f r.now z g.bytes.now g.at
fills r page g f z start h e =
    let p : g ≡ page_at (record r { now = f.said ++ drop (length f.said) r.now }) (length f.said) =
    rw start at e.said ∙ printed-front (page_at r 0) f.said refl h in
    record { noting = e.after; text = ap (λ (x : Page). x.bytes.now) p; end = ap (λ (x : Page). x.at) p }

pub notes-fit : (r : MutBor (List ℕ)) (page g : Page) (z y : Noting) (bytes : List ℕ) → page ≡ page_at r 0 → length r.now ≡ room
    → Leaves (noted z (take chunk_most bytes)) page y g
    → Fills (noted z (take chunk_most bytes)) r.now y g.bytes.now g.at
notes-fit r page g z y bytes start whole e =
    let taken = take chunk_most bytes in
    fills r page g (noted z taken) y start (omega (arith, length-take chunk_most bytes, noted-short z taken)) e

pub last-fits : (r : MutBor (List ℕ)) (page g : Page) (z : Noting) → page ≡ page_at r 0 → length r.now ≡ room
    → g ≡ printed page (last_noted z) → Ends z r.now g.bytes.now g.at
last-fits r page g z start whole e =
    let f = fills r page g (record { after = z; said = last_noted z }) z start (omega (arith, last-short z)) (record { after = refl; said = e }) in
    record { text = f.text; end = f.end }
