-- A trial (01, "One trial whole"): what a line does to a session, what a byte does, and what a whole input prints.
use Rattle.std.specs.Prelude.{List, [], ◌++◌, ℕ, eqb, if◌then◌else◌, Option, Some, None}
use Rattle.rules.specs.Records.{Tables}
use Rattle.rules.specs.Calls.{State, Stepped, answering, fresh_state, fresh}
use Rattle.trial_lines.specs.Begun.{Begun, so_far, longer, has_begun, line_begun}
use Rattle.trial_lines.specs.Fed.{Fed, fed as fed_by, fed_in_chunks}
use Rattle.trial_lines.specs.declared.Line.{Line}
use Rattle.trial_lines.specs.declared.Line.TheVariants.{Fresh, Admit, Promote, Remove, Under, Screen, Timer, Restart}
use Rattle.trial_calls.specs.Calling.{called, line_said, is_refused}
use Rattle.trial_listing.specs.Listing.{listing_of}

-- ---- a line

-- a refused N keeps the old tables
unfoldable pub unless_refused : (s : State) (done : Stepped) → Stepped
unless_refused s d = if is_refused d.answer then answering s d.answer else d

-- N n m makes tables of n and m slots fresh; the other lines call on the tables that are there
unfoldable pub line_done : (s : State) (line : Option Line) → Stepped
line_done s (Some (Fresh n m)) = unless_refused s (fresh (fresh_state n m))
line_done s (Some (Admit sequence hash previous arrival)) = called s (Some (Admit sequence hash previous arrival))
line_done s (Some (Promote slot)) = called s (Some (Promote slot))
line_done s (Some (Remove slot)) = called s (Some (Remove slot))
line_done s (Some (Under slot)) = called s (Some (Under slot))
line_done s (Some Screen) = called s (Some Screen)
line_done s (Some (Timer now retry)) = called s (Some (Timer now retry))
line_done s (Some (Restart now)) = called s (Some (Restart now))
line_done s None = called s None

-- ---- a byte

pub record Session : Type 0 where
  pub state : State
  pub begun : Begun

-- a line is done, and the next begins
unfoldable pub line_fed : (s : State) (line : Option Line) → Fed Session
line_fed s line =
    let d = line_done s line in
    record { after = record { state = d.after; begun = so_far [] }; said = line_said line d.answer }

unfoldable pub ended : (s : Session) → Fed Session
ended s = line_fed s.state (line_begun s.begun)

-- the end of a line is the byte 10
unfoldable pub fed_byte : (s : Session) (byte : ℕ) → Fed Session
fed_byte s byte =
    if eqb byte 10 then ended s
    else record { after = record { state = s.state; begun = longer s.begun byte }; said = [] }

abbrev pub fed : (s : Session) (bytes : List ℕ) → Fed Session
fed s bytes = fed_by fed_byte s bytes

-- ---- the end

-- the last line may lack its end
unfoldable pub last_ended : (s : Session) → Fed Session
last_ended s = if has_begun s.begun then ended s else record { after = s; said = [] }

unfoldable pub tables_listed : (t : Tables) → List ℕ
tables_listed t =
    listing_of t.blocks.parents t.blocks.sequences t.blocks.counts t.blocks.flags t.heads.tips t.heads.tails t.heads.connected

unfoldable pub closing : (s : Session) → List ℕ
closing s = let f = last_ended s in f.said ++ tables_listed f.after.state.tables

-- ---- the whole

-- before an accepted N the tables have no slots, so that each call is refused its shape
unfoldable pub start : Session
start = record { state = fresh_state 0 0; begun = so_far [] }

unfoldable pub transcript : (input : List ℕ) → List ℕ
transcript input = let f = fed start input in f.said ++ closing f.after

-- the same as a program reads it: chunk after chunk
abbrev pub in_chunks : (s : Session) (chunks : List (List ℕ)) → List ℕ
in_chunks s chunks = fed_in_chunks fed_byte closing s chunks
