-- What is answered is as many as are filled in.
use Rattle.std.proofs.Common.{◌∙◌}
use Rattle.station.proofs.Filled.{unwrapped, number-shown, rows-shown}
use Rattle.station.proofs.screen.station_screen.Goals as goal

pub fill_rows-requires : goal.fill_rows-requires
fill_rows-requires c =
    let s = c.screen-screened.ensures 0 in
    let many = c.unwrap_or-many.ensures ∙ unwrapped c.screen-screened.result in
    record { few = rw many s.few; fits = rw many s.fits }

pub returns : goal.returns
returns c = λ active.
    let s = c.screen-screened.ensures active in
    let many = c.unwrap_or-many.ensures ∙ unwrapped c.screen-screened.result in
    record {
      answers = c.call_number.ensures ∙ number-shown _ s;
      shows = rw many at c.fill_rows.ensures ∙ rows-shown _ s _;
      leaves = s.does.leaves;
    }
