-- Lists of calls computed whole: the trial that 01 gives ("One trial whole"), and lists that a wrong rule gets wrong. What hangs under the
-- blocks of damaged tables, and the screen of damaged heads.
use mathlib.Core.Path.{◌≡◌, refl}
use mathlib.Core.List.{List, [], ◌∷◌, ◌++◌, map}
use Rattle.std.specs.Prelude.{Some}
use Prim.Native.Nat.{ℕ, ◌*◌}
use lib.ListN.{length, replicate}
use Rattle.rules.specs.Common.{lowest, better, best, count_below, all_below, any_before, placed, placed_below, in_order}
use Rattle.rules.specs.Hashes.{hash_length, bytes_from, hash_at, put_hash, same_hash, hash_less}
use Rattle.rules.specs.Records.{NONE, slots_of, occupied, used, active, is_connected, stored, with_status, put_block, put_head, empty_blocks, empty_heads, blocks_fit, heads_fit}
use Rattle.rules.specs.BlockTable.{is_block, find, next_free, find_parent, child_of, children, childless, reaches, in_subtree, mark_subtree, adjusted, adjust_counts, set_occupied, set_on_active_chain, set_status, delete, insert_at, resolve_parent, adjust}
use Rattle.rules.specs.Under.{on_level, met, hanging, highest}
use Rattle.rules.specs.Anchor.{anchor_from, locate_anchor}
use Rattle.rules.specs.Caches.{waits_at, knowing, missing_part, keep, recompute, slot_of_head, refresh_head, recompute_used, recompute_all}
use Rattle.rules.specs.Eviction.{block_before, may_go, victim, evict_from, evict, evict_one}
use Rattle.rules.specs.Admission.{first_empty, seat_head, make_room, insert_head, move_up, fork, place_head, misses, late, joined, link, link_late, recompute_missed, link_tails, recompute_missing, resolve_tails, admitted, outgrown, refresh_outgrown, refresh_tails}
use Rattle.rules.specs.Promotion.{activate, promoted}
use Rattle.rules.specs.Removal.{recount, recount_all, listed, head_freed, takes_over, heir, drop_head, drop_heads, blocks_deleted, free_all, removed}
use Rattle.rules.specs.Rebuild.{rebuild_at, rebuild_heads, rebuilt, restarted}
use Rattle.rules.specs.Timer.{due, may_ask, asks_before, chosen, claimed, ask_at, recovery, mark_requested}
use Rattle.rules.specs.Screen.{hash_sorted, hash_then_slot, stands_before, standing, row_of, screen_of}
use Rattle.rules.specs.Answers.{Answer, refused, done, slot, freed, hangs, shown, request}
use Rattle.rules.specs.Calls.{State, Call, admit_call, promote_call, remove_call, timer_call, restart_call, shaped, fresh_state, admit_at, admit, is_next, promote, holds_active, remove, under, screen, asked, timer, restart, step, run}
use Rattle.rules.specs.Promises.{Made, made}
use Rattle.rules.specs.declared.HeadRow.{HeadRow}

-- 32 bytes alike
abbrev hash : ℕ → List ℕ
hash byte = replicate hash_length byte

abbrev admits : ℕ → ℕ → ℕ → Call
admits sequence own previous = admit_call sequence (hash own) (hash previous) 1

-- the answers of a list, and the blocks and heads that it leaves
record Trial : Type 0 where
  answers : List Answer
  sequences : List ℕ
  parents : List ℕ
  counts : List ℕ
  flags : List ℕ
  tips : List ℕ
  anchors : List ℕ
  connected : List ℕ

unfoldable trial : State → List Call → Trial
trial s calls =
    let t = (run s calls).tables in
    record {
      answers = map (λ (m : Made). m.answer) (made s calls);
      sequences = t.blocks.sequences;
      parents = t.blocks.parents;
      counts = t.blocks.counts;
      flags = t.blocks.flags;
      tips = t.heads.tips;
      anchors = t.heads.tails;
      connected = t.heads.connected;
    }

-- what a list of calls gives, beside what 01 says that it gives
record Row : Type 0 where
  given : Trial
  said : Trial

-- ---- the lists

-- 01's own
unfoldable whole : Row
whole = record {
  given = trial (fresh_state 4 2) (admits 5 10 9 ∷ admits 6 11 10 ∷ admits 6 12 10 ∷ timer_call 10 (Some 5) ∷ promote_call 0 ∷ admits 6 11 10 ∷ admits 7 13 14 ∷ []);
  said = record {
    answers = slot 0 ∷ slot 1 ∷ slot 2 ∷ request 0 4 (hash 9) ∷ done ∷ refused 6 ∷ slot 3 ∷ [];
    sequences = 5 ∷ NONE ∷ 6 ∷ 7 ∷ [];
    parents = NONE ∷ NONE ∷ 0 ∷ NONE ∷ [];
    counts = 1 ∷ 0 ∷ 1 ∷ 1 ∷ [];
    flags = 5 ∷ 0 ∷ 0 ∷ 0 ∷ [];
    tips = 3 ∷ 2 ∷ [];
    anchors = 3 ∷ 0 ∷ [];
    connected = 0 ∷ 1 ∷ [];
  };
}

-- its second eviction takes the active block's count to 0, and the block stays
unfoldable active-kept : Row
active-kept = record {
  given = trial (fresh_state 4 2) (admits 5 10 9 ∷ admits 6 11 10 ∷ admits 6 12 10 ∷ promote_call 0 ∷ admits 7 13 14 ∷ admits 8 15 16 ∷ []);
  said = record {
    answers = slot 0 ∷ slot 1 ∷ slot 2 ∷ done ∷ slot 3 ∷ slot 1 ∷ [];
    sequences = 5 ∷ 8 ∷ NONE ∷ 7 ∷ [];
    parents = NONE ∷ NONE ∷ NONE ∷ NONE ∷ [];
    counts = 0 ∷ 1 ∷ 0 ∷ 1 ∷ [];
    flags = 5 ∷ 0 ∷ 0 ∷ 0 ∷ [];
    tips = 3 ∷ 1 ∷ [];
    anchors = 3 ∷ 1 ∷ [];
    connected = 0 ∷ 0 ∷ [];
  };
}

-- a fork into a full head table evicts its only sibling: the parent, which has risen before, stays
unfoldable sibling-gone : Row
sibling-gone = record {
  given = trial (fresh_state 4 2) (admits 5 10 9 ∷ admits 6 11 10 ∷ admits 9 13 14 ∷ admits 6 12 10 ∷ []);
  said = record {
    answers = slot 0 ∷ slot 1 ∷ slot 2 ∷ slot 3 ∷ [];
    sequences = 5 ∷ NONE ∷ 9 ∷ 6 ∷ [];
    parents = NONE ∷ NONE ∷ NONE ∷ 0 ∷ [];
    counts = 1 ∷ 0 ∷ 1 ∷ 1 ∷ [];
    flags = 0 ∷ 0 ∷ 0 ∷ 0 ∷ [];
    tips = 3 ∷ 2 ∷ [];
    anchors = 0 ∷ 2 ∷ [];
    connected = 0 ∷ 0 ∷ [];
  };
}

-- a child before its parent, a second child, and a restart
unfoldable late-child : Row
late-child = record {
  given = trial (fresh_state 4 2) (admits 6 11 10 ∷ admits 5 10 9 ∷ admits 6 12 10 ∷ restart_call 7 ∷ []);
  said = record {
    answers = slot 0 ∷ slot 1 ∷ slot 2 ∷ done ∷ [];
    sequences = 6 ∷ 5 ∷ 6 ∷ NONE ∷ [];
    parents = 1 ∷ NONE ∷ 1 ∷ NONE ∷ [];
    counts = 1 ∷ 2 ∷ 1 ∷ 0 ∷ [];
    flags = 0 ∷ 0 ∷ 0 ∷ 0 ∷ [];
    tips = 0 ∷ 2 ∷ [];
    anchors = 1 ∷ 1 ∷ [];
    connected = 0 ∷ 0 ∷ [];
  };
}

-- a block that is not next and a subtree that is_occupied active are refused; then a subtree goes, and its parent is a head again
unfoldable subtree-gone : Row
subtree-gone = record {
  given = trial (fresh_state 4 2) (admits 5 10 9 ∷ admits 6 11 10 ∷ admits 7 12 11 ∷ admits 7 13 11 ∷ promote_call 0 ∷ promote_call 2 ∷ remove_call 0 ∷ remove_call 1 ∷ []);
  said = record {
    answers = slot 0 ∷ slot 1 ∷ slot 2 ∷ slot 3 ∷ done ∷ refused 8 ∷ refused 9 ∷ freed 3 ∷ [];
    sequences = 5 ∷ NONE ∷ NONE ∷ NONE ∷ [];
    parents = NONE ∷ NONE ∷ NONE ∷ NONE ∷ [];
    counts = 1 ∷ 0 ∷ 0 ∷ 0 ∷ [];
    flags = 5 ∷ 0 ∷ 0 ∷ 0 ∷ [];
    tips = 0 ∷ NONE ∷ [];
    anchors = 0 ∷ NONE ∷ [];
    connected = 1 ∷ 0 ∷ [];
  };
}

-- the first head's missing hash is stale: only the last admission's refresh moves its anchor
unfoldable refreshed : Row
refreshed = record {
  given = trial (fresh_state 6 3) (admits 10 13 14 ∷ admits 8 15 11 ∷ admits 9 15 15 ∷ admits 7 11 15 ∷ admits 9 14 15 ∷ admits 6 15 10 ∷ []);
  said = record {
    answers = slot 0 ∷ slot 1 ∷ slot 2 ∷ slot 3 ∷ slot 4 ∷ slot 5 ∷ [];
    sequences = 10 ∷ 8 ∷ 9 ∷ 7 ∷ 9 ∷ 6 ∷ [];
    parents = 4 ∷ 3 ∷ 1 ∷ 5 ∷ 1 ∷ NONE ∷ [];
    counts = 1 ∷ 2 ∷ 1 ∷ 1 ∷ 1 ∷ 1 ∷ [];
    flags = 0 ∷ 0 ∷ 0 ∷ 0 ∷ 0 ∷ 0 ∷ [];
    tips = 0 ∷ 2 ∷ NONE ∷ [];
    anchors = 5 ∷ 5 ∷ NONE ∷ [];
    connected = 0 ∷ 0 ∷ 0 ∷ [];
  };
}

-- a fork's head falls in a lower slot than its sibling's and finds itself first: it misses zeros, though the sibling knows the tail's previous hash
unfoldable zeros-kept : Row
zeros-kept = record {
  given = trial (fresh_state 3 2) (admits 0 2 0 ∷ admits 2 3 1 ∷ admits 1 1 4 ∷ admits 2 5 1 ∷ timer_call 10 (Some 5) ∷ timer_call 11 (Some 5) ∷ []);
  said = record {
    answers = slot 0 ∷ slot 1 ∷ slot 2 ∷ slot 0 ∷ request 1 0 (hash 4) ∷ request 0 0 (hash 0) ∷ [];
    sequences = 2 ∷ 2 ∷ 1 ∷ [];
    parents = 2 ∷ 2 ∷ NONE ∷ [];
    counts = 1 ∷ 1 ∷ 2 ∷ [];
    flags = 0 ∷ 0 ∷ 0 ∷ [];
    tips = 0 ∷ 1 ∷ [];
    anchors = 2 ∷ 2 ∷ [];
    connected = 0 ∷ 0 ∷ [];
  };
}

-- blocks as they are loaded, no count set: a shared block, its two children, and a block apart
abbrev loaded : State
loaded = record {
  tables = record {
    blocks = record {
      hashes = hash 10 ++ hash 11 ++ hash 12 ++ hash 13;
      parents = NONE ∷ 0 ∷ 0 ∷ NONE ∷ [];
      sequences = 5 ∷ 6 ∷ 6 ∷ 7 ∷ [];
      counts = replicate 4 0;
      flags = replicate 4 0;
    };
    heads = empty_heads 2;
  };
  active_head = NONE;
}

-- full, forked and freshly loaded together: the shared block stays
unfoldable mended : Row
mended = record {
  given = trial loaded (restart_call 7 ∷ []);
  said = record {
    answers = done ∷ [];
    sequences = 5 ∷ NONE ∷ 6 ∷ 7 ∷ [];
    parents = NONE ∷ NONE ∷ 0 ∷ NONE ∷ [];
    counts = 1 ∷ 0 ∷ 1 ∷ 1 ∷ [];
    flags = 0 ∷ 0 ∷ 0 ∷ 0 ∷ [];
    tips = 3 ∷ 2 ∷ [];
    anchors = 3 ∷ 0 ∷ [];
    connected = 0 ∷ 0 ∷ [];
  };
}

rows : List Row
rows = whole ∷ active-kept ∷ sibling-gone ∷ late-child ∷ subtree-gone ∷ refreshed ∷ zeros-kept ∷ mended ∷ []

-- each list gives what is said
as_said : map (λ (r : Row). r.given) rows ≡ map (λ (r : Row). r.said) rows
unfolding rows trial whole active-kept sibling-gone late-child subtree-gone refreshed zeros-kept mended made step run fresh_state empty_blocks empty_heads lowest better best count_below all_below in_order bytes_from hash_at put_hash same_hash hash_less slots_of occupied used active is_connected stored with_status put_block put_head is_block find next_free find_parent child_of children childless reaches in_subtree mark_subtree adjusted adjust_counts set_occupied set_on_active_chain set_status delete insert_at resolve_parent adjust anchor_from locate_anchor waits_at knowing missing_part keep recompute slot_of_head refresh_head recompute_used recompute_all block_before may_go victim evict_from evict evict_one first_empty seat_head make_room insert_head move_up fork place_head misses late joined link link_late recompute_missed link_tails recompute_missing resolve_tails admitted outgrown refresh_outgrown refresh_tails activate promoted recount recount_all listed head_freed takes_over heir drop_head drop_heads blocks_deleted free_all removed rebuild_at rebuild_heads rebuilt restarted due may_ask asks_before chosen claimed ask_at recovery mark_requested blocks_fit heads_fit shaped admit_at admit is_next promote holds_active remove asked timer restart
as_said = refl

-- ---- what hangs under a block

-- a table with these parents and sequences, and no head
abbrev damaged : List ℕ → List ℕ → State
damaged parents sequences = record {
  tables = record {
    blocks = record {
      hashes = replicate (length parents * hash_length) 0;
      parents = parents;
      sequences = sequences;
      counts = replicate (length parents) 0;
      flags = replicate (length parents) 0;
    };
    heads = empty_heads 2;
  };
  active_head = NONE;
}

-- what a call answers, beside what 02 says
record Answered : Type 0 where
  answer : Answer
  says : Answer

abbrev hanging_at : State → ℕ → Answer → Answered
hanging_at s i says = record { answer = (under s i).answer; says = says }

-- its own parent, alone
unfoldable alone : State
alone = damaged (0 ∷ []) (5 ∷ [])

-- its own parent, and that of all others: n · n - n + 1
unfoldable most : State
most = damaged (0 ∷ 0 ∷ 0 ∷ []) (5 ∷ 6 ∷ 7 ∷ [])

-- a ring of all n
unfoldable round : State
round = damaged (1 ∷ 2 ∷ 0 ∷ []) (5 ∷ 7 ∷ 6 ∷ [])

-- a ring of two, and a tree upon it
unfoldable ringed : State
ringed = damaged (1 ∷ 0 ∷ 1 ∷ 2 ∷ []) (5 ∷ 6 ∷ 7 ∷ 8 ∷ [])

-- an empty slot whose parent cell names the first block, and a block whose parent it is
unfoldable broken : State
broken = damaged (NONE ∷ 0 ∷ 1 ∷ []) (5 ∷ NONE ∷ 7 ∷ [])

under-rows : List Answered
under-rows =
    hanging_at alone 0 (hangs 1 5)
    ∷ hanging_at most 0 (hangs 7 7) ∷ hanging_at most 1 (hangs 1 6)
    ∷ hanging_at round 0 (hangs 3 7) ∷ hanging_at round 2 (hangs 3 7)
    ∷ hanging_at ringed 0 (hangs 6 8) ∷ hanging_at ringed 2 (hangs 2 8)
    ∷ hanging_at broken 0 (hangs 1 5) ∷ hanging_at broken 1 (refused 3) ∷ hanging_at broken 2 (hangs 1 7) ∷ hanging_at broken 3 (refused 3)
    ∷ hanging_at (damaged (0 ∷ 0 ∷ []) (5 ∷ [])) 0 (refused 1)
    ∷ []

under-as-said : map (λ (r : Answered). r.answer) under-rows ≡ map (λ (r : Answered). r.says) under-rows
unfolding under-rows alone most round ringed broken empty_heads all_below slots_of occupied on_level met hanging highest blocks_fit heads_fit shaped under
under-as-said = refl

-- ---- the head screen

-- slot 2 is empty, with a hash left over; of seven heads one is empty, one has that tip, one a tip out of range, and two share a tip
unfoldable screened : State
screened = record {
  tables = record {
    blocks = record {
      hashes = hash 10 ++ hash 11 ++ hash 255 ++ hash 12;
      parents = replicate 4 NONE;
      sequences = 7 ∷ 7 ∷ NONE ∷ 9 ∷ [];
      counts = replicate 4 0;
      flags = replicate 4 0;
    };
    heads = record {
      tips = 1 ∷ 2 ∷ NONE ∷ 9 ∷ 1 ∷ 0 ∷ 3 ∷ [];
      tails = 0 ∷ NONE ∷ 5 ∷ 2 ∷ NONE ∷ 0 ∷ 3 ∷ [];
      missing = replicate (7 * hash_length) 0;
      requested = replicate 7 0;
      arrivals = replicate 7 0;
      connected = 3 ∷ 1 ∷ 1 ∷ 0 ∷ 2 ∷ 0 ∷ 255 ∷ [];
    };
  };
  active_head = NONE;
}

abbrev row : ℕ → ℕ → ℕ → ℕ → HeadRow
row tip sequence kind anchor = record {
  tip = record { 0 = tip };
  sequence = record { 0 = sequence };
  kind = record { 0 = kind };
  anchor = record { 0 = anchor };
}

-- empty tips first, by slot; then by sequence, by hash, and the two that share a tip by slot
unfoldable all_shown : List HeadRow
all_shown =
    row 2 NONE 1 NONE ∷ row 9 NONE 0 2
    ∷ row 3 9 1 3
    ∷ row 0 7 0 0 ∷ row 1 7 1 0 ∷ row 1 7 0 NONE
    ∷ []

abbrev screen_for : State → ℕ → Answer → Answered
screen_for s room says = record { answer = (screen s room).answer; says = says }

screen-rows : List Answered
screen-rows =
    screen_for screened 7 (shown all_shown) ∷ screen_for screened 6 (refused 10)
    ∷ screen_for (fresh_state 1 2) 2 (shown []) ∷ screen_for (fresh_state 1 2) 1 (refused 10)
    ∷ screen_for (fresh_state 1 1) 0 (refused 1)
    ∷ []

screen-as-said : map (λ (r : Answered). r.answer) screen-rows ≡ map (λ (r : Answered). r.says) screen-rows
unfolding screen-rows screened all_shown fresh_state empty_blocks empty_heads any_before placed placed_below bytes_from hash_at same_hash hash_less slots_of occupied used is_connected hash_sorted hash_then_slot stands_before standing row_of screen_of blocks_fit heads_fit shaped screen
screen-as-said = refl
