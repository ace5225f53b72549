-- The lines of slot after slot, and a listing has at most 96 bytes a slot.
use mathlib.Core.Path.{◌≡◌}
use mathlib.Core.Bool.{false}
use mathlib.Core.List.{List}
use Prim.Native.Nat.{ℕ, zero, suc, ◌+◌, ◌*◌, ◌≤◌}
use native.Mathlib.Numerals.{add-one}
use native.Mathlib.Omega.{arith}
use lib.ListN.{length, length-append}
use Rattle.rules.specs.Records.{slots_of, occupied, used}
use Rattle.rules.proofs.Splits.{split}
use Rattle.trial_lines.specs.Writing.{place}
use Rattle.trial_lines.specs.Printing.{printed}
use Rattle.trial_lines.specs.declared.page.Page.{Page}
use Rattle.trial_lines.proofs.Printing.{printed-none, printed_then}
use Rattle.trial_lines.proofs.Short.{block-short, head-short}
use Rattle.trial_listing.specs.Listing.{block_shown, head_shown, lines_below, listing_of}

-- ---- one slot

pub block_none : (parents sequences counts flags : List ℕ) (slot : ℕ) (page : Page) → occupied sequences slot ≡ false
    → printed page (block_shown parents sequences counts flags slot) ≡ page
unfolding block_shown
block_none parents sequences counts flags slot page e = rw e (printed-none page)

block-shown-short : (parents sequences counts flags : List ℕ) (slot : ℕ) → length (block_shown parents sequences counts flags slot) ≤ 96
unfolding block_shown
block-shown-short parents sequences counts flags slot =
    split (occupied sequences slot) (λ e. rw e (block-short _ _ _ _ _)) (λ e. rw e (omega arith))

head-shown-short : (tips tails connected : List ℕ) (head : ℕ) → length (head_shown tips tails connected head) ≤ 96
unfolding head_shown
head-shown-short tips tails connected head =
    split (used tips head) (λ e. rw e (head-short _ _ _ _)) (λ e. rw e (omega arith))

-- ---- slot after slot

module _ (shown : ℕ → List ℕ) where
  pub lines-first : (page : Page) → printed page (lines_below shown 0) ≡ page
  unfolding lines_below
  lines-first page = printed-none page

  pub lines_next : (page : Page) (i : ℕ) → printed (printed page (lines_below shown i)) (shown i) ≡ printed page (lines_below shown (i + 1))
  unfolding lines_below
  lines_next page i = rw add-one (printed_then page (lines_below shown i) (shown i))

  lines-short : (n : ℕ) → ((i : ℕ) → length (shown i) ≤ 96) → length (lines_below shown n) ≤ 96 * n
  unfolding lines_below
  lines-short zero h = omega arith
  lines-short (suc n) h = omega (arith, length-append (lines_below shown n) (shown n), lines-short n h, h n)

pub ruleset lines = (lines-first, lines_next)

-- ---- the whole

module _ (parents sequences counts flags tips tails connected : List ℕ) where
  pub listing-short : length (listing_of parents sequences counts flags tips tails connected) ≤ 96 * (length sequences + length tips)
  unfolding listing_of slots_of
  listing-short =
      let b = lines-short (block_shown parents sequences counts flags) (slots_of sequences)
      (block-shown-short parents sequences counts flags) in
      let h = lines-short (head_shown tips tails connected) (slots_of tips) (head-shown-short tips tails connected) in
      simp length-append (omega arith)

  -- a buffer with that room has it whole
  pub listing-fits : (room at : ℕ)
      → at + 96 * (length sequences + length tips) ≤ room
      → place room at (length (listing_of parents sequences counts flags tips tails connected))
      ≡ at + length (listing_of parents sequences counts flags tips tails connected)
  unfolding place
  listing-fits room at h = omega (arith, listing-short)
