-- A byte that comes, and a last line: what the arrays then hold is what the session then is.
use mathlib.Core.Path.{◌≡◌, refl, sym, ap}
use mathlib.Core.Logic.{◌≢◌}
use mathlib.Core.Bool.{true, false}
use mathlib.Core.List.{[]}
use Prim.Native.Nat.{ℕ}
use borrow.Author.Tests.{eq-eqb, ne_eqb}
use Rattle.rules.specs.Calls.{State}
use Rattle.trial_lines.specs.Begun.{so_far, has_begun, line_begun}
use Rattle.trial_lines.specs.Fed.{Fed, Leaves}
use Rattle.trial_lines.specs.declared.page.Page.{Page}
use Rattle.trial_lines.proofs.Printing.{printed-none}
use Rattle.trial_session.specs.Session.{Session, line_fed, ended, fed_byte, last_ended}
use Rattle.trial_session.specs.Held.{Held, held_with, state_in, session_in, held_line, held_joined, held_ended, held_byte, held_closed, kept, kept_byte, kept_closed, DoesLine}

-- a session whose next line has not begun
abbrev session_of : State → Session
session_of s = record { state = s; begun = so_far [] }

-- what is held once a line that has come is taken
abbrev taken : Held → Held
taken h = held_with h.arrays h.trial (so_far [])

-- the end of a line
abbrev kept_ended : Held → Fed (Held × Session)
kept_ended h = let f = ended (session_in h) in record { after = (held_ended h, f.after); said = f.said }

line-ends : (h g : Held) (page next : Page) → DoesLine (taken h) (line_begun h.begun) page g next → Leaves (kept_ended h) page (kept g) next
unfolding held_line held_ended ended session_in line_fed state_in
line-ends h g page next d =
    let b : g.begun ≡ so_far [] = ap (λ (x : Held). x.begun) d.held in
    let s : session_in g ≡ (ended (session_in h)).after = rw b (ap session_of d.state) in
    record { after = λ i. (d.held i, s i); said = d.said }

pub byte-ends : (h g : Held) (page next : Page) (byte : ℕ) → byte ≡ 10 → DoesLine (taken h) (line_begun h.begun) page g next
    → Leaves (kept_byte (kept h) byte) page (kept g) next
unfolding held_byte fed_byte kept_byte
byte-ends h g page next byte b d = rw (eq-eqb byte 10 b) (line-ends h g page next d)

pub byte-joins : (h : Held) (page : Page) (byte : ℕ) → byte ≢ 10 → Leaves (kept_byte (kept h) byte) page (kept (held_joined h byte)) page
unfolding held_byte fed_byte session_in state_in kept_byte
byte-joins h page byte ne = let q = ne_eqb byte 10 ne in record { after = rw q; said = rw q (sym (printed-none page)) }

pub last-ends : (h g : Held) (page next : Page) → has_begun h.begun ≡ true → DoesLine (taken h) (line_begun h.begun) page g next
    → Leaves (kept_closed (kept h)) page (kept g) next
unfolding held_closed last_ended session_in kept_closed
last-ends h g page next b d = rw b (line-ends h g page next d)

pub none-ends : (h : Held) (page : Page) → has_begun h.begun ≡ false → Leaves (kept_closed (kept h)) page (kept h) page
unfolding held_closed last_ended session_in kept_closed
none-ends h page b = rw b (record { after = refl; said = sym (printed-none page) })
