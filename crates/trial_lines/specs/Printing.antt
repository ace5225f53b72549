-- What is printed on a page: the bytes from its place on, as many as have room, and the place after them.
use Rattle.std.specs.Prelude.{List, ℕ, length}
use Rattle.std.specs.Borrow.{MutBor}
use Rattle.std.proofs.lemmas.List.Edits.{sets}
use Rattle.trial_lines.specs.Writing.{place}
use Rattle.trial_lines.specs.declared.page.Page.{Page}

abbrev pub page_at : (bytes : MutBor (List ℕ)) (at : ℕ) → Page
page_at bytes at = record { bytes = bytes; at = at }

-- the page with these bytes in its buffer
abbrev pub page_with : (page : Page) (bytes : List ℕ) (at : ℕ) → Page
page_with page bytes at = page_at (record page.bytes { now = bytes }) at

unfoldable pub printed : (page : Page) (text : List ℕ) → Page
printed page text = page_with page (sets page.bytes.now page.at text) (place (length page.bytes.now) page.at (length text))
