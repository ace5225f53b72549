-- How a trial's arrays hold a session: the tables in use are the first slots of the arrays. What stands behind is left as it was.
use Rattle.std.specs.Prelude.{◌≡◌, List, [], ◌∷◌, ◌++◌, ℕ, ◌+◌, ◌*◌, eqb, length, drop, if◌then◌else◌, Option, Some, None}
use Rattle.rules.specs.Kinds.{BlockSlot}
use Rattle.rules.specs.Records.{Tables, NONE}
use Rattle.rules.specs.Calls.{State, Stepped, state_of}
use Rattle.trial_lines.specs.Begun.{chunk_most, Begun, so_far, longer, has_begun, line_begun}
use Rattle.trial_lines.specs.Fed.{Fed}
use Rattle.trial_lines.specs.Printing.{printed}
use Rattle.trial_lines.specs.declared.Line.{Line}
use Rattle.trial_lines.specs.declared.page.Page.{Page}
use Rattle.trial_lines.specs.declared.Line.TheVariants.{Fresh, Admit, Promote, Remove, Under, Screen, Timer, Restart}
use Rattle.trial_calls.specs.Calling.{line_said, renews}
use Rattle.trial_fronts.specs.Fronts.{tables_in, front, behind, before}
use Rattle.trial_session.specs.Session.{line_done, Session, fed_byte, fed, last_ended, closing}
use Rattle.trial_session.specs.declared.Session as declared_session
use Rattle.trial_session.specs.declared.Trial.{Trial}

-- ---- what is held

pub record Held : Type 0 where
  pub arrays : Tables
  pub trial : Trial
  pub begun : Begun

-- before anything came
abbrev pub new_trial : Trial
new_trial = record { n = 0; m = 0; active = record { 0 = NONE } }

abbrev pub held_with : (arrays : Tables) (trial : Trial) (begun : Begun) → Held
held_with arrays trial begun = record { arrays = arrays; trial = trial; begun = begun }

abbrev pub held_of : (session : declared_session.Session) → Held
held_of z = held_with (tables_in z.arrays) z.trial z.begun

unfoldable pub state_in : (h : Held) → State
state_in h = state_of (front h.trial.n h.trial.m h.arrays) h.trial.active.0

unfoldable pub session_in : (h : Held) → Session
session_in h = record { state = state_in h; begun = h.begun }

-- ---- after a line

-- the sizes that a line asks for: N its own
unfoldable pub asked : (trial : Trial) (line : Option Line) → Trial
asked z (Some (Fresh n m)) = record { n = n; m = m; active = z.active }
asked z (Some (Admit sequence hash previous arrival)) = z
asked z (Some (Promote slot)) = z
asked z (Some (Remove slot)) = z
asked z (Some (Under slot)) = z
asked z (Some Screen) = z
asked z (Some (Timer now retry)) = z
asked z (Some (Restart now)) = z
asked z None = z

-- a trial of these sizes
unfoldable pub sizes_after : (trial : Trial) (active_head : BlockSlot) → Trial
sizes_after z active_head = record { n = z.n; m = z.m; active = record { 0 = active_head } }

unfoldable pub trial_after : (trial : Trial) (line : Option Line) (done : Stepped) → Trial
trial_after z line d = sizes_after (if renews line d.answer then asked z line else z) d.after.active_head

unfoldable pub held_line : (h : Held) (line : Option Line) → Held
held_line h line =
    let d = line_done (state_in h) line in
    let z = trial_after h.trial line d in
    held_with (before d.after.tables (behind z.n z.m h.arrays)) z h.begun

-- the next line begins
unfoldable pub held_ended : (h : Held) → Held
held_ended h = held_line (held_with h.arrays h.trial (so_far [])) (line_begun h.begun)

-- ---- after bytes

abbrev pub held_joined : (h : Held) (byte : ℕ) → Held
held_joined h byte = held_with h.arrays h.trial (longer h.begun byte)

unfoldable pub held_byte : (h : Held) (byte : ℕ) → Held
held_byte h byte = if eqb byte 10 then held_ended h else held_joined h byte

unfoldable pub held_fed : (h : Held) (bytes : List ℕ) → Held
held_fed h [] = h
held_fed h (byte ∷ bytes) = held_fed (held_byte h byte) bytes

-- ---- after the last line

unfoldable pub held_closed : (h : Held) → Held
held_closed h = if has_begun h.begun then held_ended h else h

-- how many bytes a line may print: a screen 37 for each of 64 records, any other line less
abbrev pub print_most : ℕ
print_most = 2368

-- a line that prints so much has two bytes at least, V and its end: each byte makes half of it, where that of a line's first byte is kept
-- until the line ends
abbrev pub byte_most : ℕ
byte_most = 1184

-- what is printed of a chunk, and what was kept before it
abbrev pub room : ℕ
room = byte_most * (chunk_most + 1)

-- ---- what is held, and the session that it is

abbrev pub kept : (h : Held) → Held × Session
kept h = (h, session_in h)

abbrev pub kept_of : (session : declared_session.Session) → Held × Session
kept_of z = kept (held_of z)

-- after a byte, and after the last line
unfoldable pub kept_byte : (k : Held × Session) (byte : ℕ) → Fed (Held × Session)
kept_byte k byte = let f = fed_byte k.1 byte in record { after = (held_byte k.0 byte, f.after); said = f.said }

unfoldable pub kept_closed : (k : Held × Session) → Fed (Held × Session)
kept_closed k = let f = last_ended k.1 in record { after = (held_closed k.0, f.after); said = f.said }

-- ---- what a function of the session leaves

-- a line's call
pub record DoesLine (h : Held) (line : Option Line) (page : Page) (g : Held) (next : Page) : Type 0 where
  pub held : g ≡ held_line h line
  pub state : state_in g ≡ (line_done (state_in h) line).after
  pub said : next ≡ printed page (line_said line (line_done (state_in h) line).answer)

-- bytes, in a buffer that has room for all that is printed: k is what is held and f what is printed
pub record Fills (k : Held) (f : Fed Session) (out : List ℕ) (g : Held) (written : List ℕ) (next : ℕ) : Type 0 where
  pub held : g ≡ k
  pub session : session_in g ≡ f.after
  pub text : written ≡ f.said ++ drop (length f.said) out
  pub end : next ≡ length f.said

abbrev pub Feeds : (h : Held) (bytes out : List ℕ) (g : Held) (written : List ℕ) (next : ℕ) → Type 0
Feeds h bytes out g written next = Fills (held_fed h bytes) (fed (session_in h) bytes) out g written next

-- the end of a trial, in a buffer that has room for all of it
pub record Closes (h : Held) (out : List ℕ) (g : Held) (written : List ℕ) (next : ℕ) : Type 0 where
  pub held : g ≡ held_closed h
  pub text : written ≡ closing (session_in h) ++ drop (length (closing (session_in h))) out
  pub end : next ≡ length (closing (session_in h))
