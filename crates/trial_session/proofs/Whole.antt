-- 01's own trial ("One trial whole"), from the bytes that are read to the bytes that are printed.
use mathlib.Core.Path.{◌≡◌, refl}
use Rattle.rules.specs.Common.{lowest, better, best, count_below, all_below, in_order}
use Rattle.rules.specs.Hashes.{bytes_from, hash_at, put_hash, same_hash, hash_less}
use Rattle.rules.specs.Records.{slots_of, occupied, used, active, is_connected, stored, with_status, put_block, put_head, empty_blocks, empty_heads, blocks_fit, heads_fit}
use Rattle.rules.specs.BlockTable.{is_block, find, next_free, find_parent, child_of, children, childless, reaches, in_subtree, mark_subtree, adjusted, adjust_counts, set_occupied, set_on_active_chain, set_status, delete, insert_at, resolve_parent, adjust}
use Rattle.rules.specs.Anchor.{anchor_from, locate_anchor}
use Rattle.rules.specs.Caches.{waits_at, knowing, missing_part, keep, recompute, slot_of_head, refresh_head, recompute_used, recompute_all}
use Rattle.rules.specs.Eviction.{block_before, may_go, victim, evict_from, evict, evict_one}
use Rattle.rules.specs.Admission.{first_empty, seat_head, make_room, insert_head, move_up, fork, place_head, misses, late, joined, link, link_late, recompute_missed, link_tails, recompute_missing, resolve_tails, admitted, outgrown, refresh_outgrown, refresh_tails}
use Rattle.rules.specs.Promotion.{activate, promoted}
use Rattle.rules.specs.Removal.{recount, recount_all, listed, head_freed, takes_over, heir, drop_head, drop_heads, blocks_deleted, free_all, removed}
use Rattle.rules.specs.Rebuild.{rebuild_at, rebuild_heads, rebuilt, restarted}
use Rattle.rules.specs.Timer.{due, may_ask, asks_before, chosen, claimed, ask_at, recovery, mark_requested}
use Rattle.rules.specs.Calls.{shaped, fresh_state, admit_at, admit, is_next, promote, holds_active, remove, asked, timer, restart, step, fresh}
use Rattle.trial_lines.specs.Begun.{longer, has_begun, line_begun}
use Rattle.trial_lines.specs.Fed.{fed}
use Rattle.trial_lines.specs.Reading.{field_length, all_digits, value_from, number, hash_byte, fresh_of, admit_of, slot_of, timer_of, parse}
use Rattle.trial_lines.specs.Text.{bytes_from as text_from, bytes}
use Rattle.trial_lines.specs.Writing.{digits_in, digits, hex, field, reference, letter_line, number_line, request_line, none_due_line, block_line, head_line}
use Rattle.trial_listing.specs.Listing.{block_shown, head_shown, lines_below, listing_of}
use Rattle.trial_calls.specs.Calling.{called, done_said, line_said, is_refused}
use Rattle.trial_session.specs.Session.{unless_refused, line_done, line_fed, ended, fed_byte, last_ended, tables_listed, closing, start, transcript}

as_said : transcript (bytes "N 4 2\nA 5 0a 09 1\nA 6 0b 0a 2\nA 6 0c 0a 3\nT 10 5\nP 0\nA 6 0b 0a 4\nA 7 0d 0e 20\n")
    ≡ bytes "A 0\nA 1\nA 2\nT 0 4 09\nP 0\nE 6\nA 3\nB 0 5 - 1 1\nB 2 6 0 1 0\nB 3 7 - 1 0\nH 0 3 S 3\nH 1 2 C 0\n"
unfolding text_from bytes longer tables_listed unless_refused line_done line_fed line_begun joined ended fed_byte fed has_begun last_ended listed closing start transcript called done_said line_said is_refused field_length all_digits value_from number hash_byte fresh_of admit_of slot_of timer_of parse digits_in digits hex field reference letter_line number_line request_line none_due_line block_line head_line block_shown head_shown lines_below listing_of fresh step fresh_state empty_blocks empty_heads lowest better best count_below all_below in_order bytes_from hash_at put_hash same_hash hash_less slots_of occupied used active is_connected stored with_status put_block put_head is_block find next_free find_parent child_of children childless reaches in_subtree mark_subtree adjusted adjust_counts set_occupied set_on_active_chain set_status delete insert_at resolve_parent adjust anchor_from locate_anchor waits_at knowing missing_part keep recompute slot_of_head refresh_head recompute_used recompute_all block_before may_go victim evict_from evict evict_one first_empty seat_head make_room insert_head move_up fork place_head misses late link link_late recompute_missed link_tails recompute_missing resolve_tails admitted outgrown refresh_outgrown refresh_tails activate promoted recount recount_all head_freed takes_over heir drop_head drop_heads blocks_deleted free_all removed rebuild_at rebuild_heads rebuilt restarted due may_ask asks_before chosen claimed ask_at recovery mark_requested blocks_fit heads_fit shaped admit_at admit is_next promote holds_active remove asked timer restart
as_said = refl
