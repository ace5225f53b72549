-- How much is printed: at most `print_most` bytes for each line. A line that has begun has a byte's part of that in reserve, and its
-- end is another byte; one that has not prints `?`. So it is at most `byte_most` for each byte that comes, and for what was kept in
-- reserve. At the end it is 96 more for each slot.
use Rattle.std.specs.Prelude.{if◌then◌else◌, Option, Some, None}
use Rattle.std.specs.Borrow.{MutBor}
use mathlib.Core.Path.{◌≡◌, refl, ap, ◌∙◌}
use mathlib.Core.List.{List, [], ◌∷◌, ◌++◌}
use Prim.Native.Nat.{ℕ, ◌+◌, ◌*◌, ◌≤◌}
use native.Mathlib.Omega.{arith}
use lib.Dec.{eqb}
use lib.ListN.{length, get_or, take, drop, length-append, length-take}
use Rattle.rules.specs.Answers.{Answer, refused, done, slot, freed, hangs, shown, request, none_due, due_at, never_due}
use Rattle.rules.specs.Calls.{State, max_heads, shaped, fresh_state, fresh}
use Rattle.rules.proofs.Splits.{split}
use Rattle.trial_lines.specs.Begun.{Begun, so_far, too_long, longer, has_begun, line_begun, chunk_most}
use Rattle.trial_lines.specs.Fed.{fed as fed_by, Leaves}
use Rattle.trial_lines.specs.Printing.{page_at}
use Rattle.trial_lines.specs.Reading.{field_length, parse}
use Rattle.trial_lines.specs.Writing.{letter_line, none_due_line}
use Rattle.trial_lines.specs.Said.{said}
use Rattle.trial_lines.specs.declared.Line.{Line}
use Rattle.trial_lines.specs.declared.Line.TheVariants.{Fresh, Admit, Promote, Remove, Under, Screen, Timer, Restart}
use Rattle.trial_lines.specs.declared.page.Page.{Page}
use Rattle.trial_lines.proofs.Printing.{printed-front}
use Rattle.trial_lines.proofs.Short.{number_short, hanging-short, rows_short, request-short}
use Rattle.trial_calls.specs.Calling.{called, done_said, line_said, is_refused}
use Rattle.trial_calls.proofs.Shown.{rows_shown, called-few}
use Rattle.trial_listing.proofs.Listed.{listing-short}
use Rattle.trial_session.specs.Session.{Session, unless_refused, line_done, line_fed, ended, fed_byte, fed, last_ended, tables_listed, closing}
use Rattle.trial_session.specs.Held.{Held, session_in, kept, kept_byte, print_most, byte_most, room, Feeds}
use Rattle.trial_session.proofs.Chunks.{kept_fed}

said-short : (when_done : List ℕ) (answer : Answer) → length when_done ≤ 96 → rows_shown answer ≤ max_heads
    → length (said when_done answer) ≤ print_most
unfolding none_due_line
said-short w (refused number) h few = omega (arith, number_short 69 number)
said-short w done h few = omega arith
said-short w (slot new) h few = omega (arith, number_short 65 new)
said-short w (freed blocks) h few = omega (arith, number_short 68 blocks)
said-short w (hangs blocks highest) h few = omega (arith, hanging-short blocks highest)
said-short w (shown rows) h few = omega (arith, rows_short rows)
said-short w (request head claimed missing) h few = omega (arith, request-short head claimed (get_or missing 0 0))
said-short w none_due h few = omega arith
said-short w (due_at time) h few = omega arith
said-short w never_due h few = omega arith

done-short : (line : Option Line) → length (done_said line) ≤ 96
unfolding done_said letter_line
done-short (Some (Fresh n m)) = omega arith
done-short (Some (Admit sequence hash previous arrival)) = omega arith
done-short (Some (Promote block)) = number_short 80 block.0
done-short (Some (Remove block)) = omega arith
done-short (Some (Under block)) = omega arith
done-short (Some Screen) = omega arith
done-short (Some (Timer now retry)) = omega arith
done-short (Some (Restart now)) = omega arith
done-short None = omega arith

-- N shows none, refused or not
fresh-few : (s : State) (n m : ℕ) → rows_shown (unless_refused s (fresh (fresh_state n m))).answer ≤ max_heads
unfolding fresh is_refused unless_refused
fresh-few s n m = split (shaped (fresh_state n m).tables) (λ e. rw e (omega arith)) (λ e. rw e (omega arith))

done-few : (s : State) (line : Option Line) → rows_shown (line_done s line).answer ≤ max_heads
unfolding line_done
done-few s (Some (Fresh n m)) = fresh-few s n m
done-few s (Some (Admit sequence hash previous arrival)) = called-few s (Some (Admit sequence hash previous arrival))
done-few s (Some (Promote block)) = called-few s (Some (Promote block))
done-few s (Some (Remove block)) = called-few s (Some (Remove block))
done-few s (Some (Under block)) = called-few s (Some (Under block))
done-few s (Some Screen) = called-few s (Some Screen)
done-few s (Some (Timer now retry)) = called-few s (Some (Timer now retry))
done-few s (Some (Restart now)) = called-few s (Some (Restart now))
done-few s None = called-few s None

line-short : (s : State) (line : Option Line) → length (line_fed s line).said ≤ print_most
unfolding line_fed line_said
line-short s line = said-short (done_said line) (line_done s line).answer (done-short line) (done-few s line)

ended-short : (s : Session) → length (ended s).said ≤ print_most
unfolding ended
ended-short s = line-short s.state _

-- ---- byte after byte

-- a line that has begun keeps a byte's part
reserve : Begun → ℕ
reserve begun = if has_begun begun then byte_most else 0

reserve-none : reserve (so_far []) ≡ 0
unfolding has_begun reserve
reserve-none = refl

reserve-short : (begun : Begun) → reserve begun ≤ byte_most
unfolding reserve
reserve-short begun = split (has_begun begun) (λ e. rw e (omega arith)) (λ e. rw e (omega arith))

-- an empty line is unread
empty-short : (s : State) → length (line_fed s (line_begun (so_far []))).said ≤ byte_most
unfolding field_length parse line_begun letter_line called done_said line_said line_done line_fed
empty-short s = omega arith

begun-short : (s : State) (begun : Begun) → length (line_fed s (line_begun begun)).said ≤ byte_most + reserve begun
unfolding has_begun reserve
begun-short s (so_far []) = omega (arith, empty-short s)
begun-short s (so_far (byte ∷ bytes)) = omega (arith, line-short s (line_begun (so_far (byte ∷ bytes))))
begun-short s too_long = omega (arith, line-short s (line_begun too_long))

byte-short : (s : Session) (byte : ℕ)
    → length (fed_byte s byte).said + reserve (fed_byte s byte).after.begun ≤ byte_most + reserve s.begun
unfolding line_fed ended fed_byte
byte-short s byte =
    split (eqb byte 10)
    (λ e. rw e (omega (arith, begun-short s.state s.begun, reserve-none)))
    (λ e. rw e (omega (arith, reserve-short (longer s.begun byte))))

fed-short : (s : Session) (bytes : List ℕ)
    → length (fed s bytes).said + reserve (fed s bytes).after.begun ≤ byte_most * length bytes + reserve s.begun
unfolding fed_by
fed-short s [] = omega arith
fed-short s (byte ∷ bytes) =
    let f = fed_byte s byte in
    omega (arith, length-append f.said (fed f.after bytes).said, byte-short s byte, fed-short f.after bytes)

-- ---- the end

last-short : (s : Session) → length (last_ended s).said ≤ print_most
unfolding last_ended
last-short s = split (has_begun s.begun) (λ e. rw e (ended-short s)) (λ e. rw e (omega arith))

pub closing-short : (s : Session) (blocks heads : ℕ)
    → length (last_ended s).after.state.tables.blocks.sequences ≤ blocks → length (last_ended s).after.state.tables.heads.tips ≤ heads
    → length (closing s) ≤ print_most + 96 * (blocks + heads)
unfolding closing tables_listed
closing-short s blocks heads b h =
    let t = (last_ended s).after.state.tables in
    let l = listing-short t.blocks.parents t.blocks.sequences t.blocks.counts t.blocks.flags t.heads.tips t.heads.tails t.heads.connected in
    simp length-append (omega (arith, last-short s, l))

-- ---- a chunk

-- what so many bytes make a session print has room
pub feeds : (r : MutBor (List ℕ)) (page next : Page) (h g : Held) (bytes : List ℕ) → page ≡ page_at r 0 → length r.now ≡ room
    → Leaves (fed_by kept_byte (kept h) (take chunk_most bytes)) page (kept g) next
    → Feeds h (take chunk_most bytes) r.now g next.bytes.now next.at
feeds r page next h g bytes start whole e =
    let came = take chunk_most bytes in
    let s = session_in h in
    let f = fed s came in
    let d = rw (kept_fed h s came) at e in
    let p : next ≡ page_at (record r { now = f.said ++ drop (length f.said) r.now }) (length f.said) =
    rw start at d.said
    ∙ printed-front (page_at r 0) f.said refl (omega (arith, length-take chunk_most bytes, fed-short s came, reserve-short s.begun)) in
    record {
      held = ap (λ (x : Held × Session). x.0) d.after;
      session = ap (λ (x : Held × Session). x.1) d.after;
      text = ap (λ (x : Page). x.bytes.now) p;
      end = ap (λ (x : Page). x.at) p;
    }
