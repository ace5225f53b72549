-- Removal, timer and restart as calls of a list.
use mathlib.Core.Path.{◌≡◌, refl}
use mathlib.Core.Logic.{◌≢◌}
use mathlib.Core.Bool.{true, false, ◌&&◌}
use Rattle.std.specs.Prelude.{Option, None, Some}
use Prim.Native.Nat.{ℕ}
use native.Mathlib.Omega.{arith}
use lib.Dec.{leb}
use lib.ListN.{length, length-set}
use lib.Seq.{get_or-set_other}
use Rattle.rules.specs.Hashes.{hash_at}
use Rattle.rules.specs.Records.{NONE, Blocks, Heads, tip_at, tail_at, requested_at, sequence_at, occupied, stored, slots_of, with_requested, head_at, with_heads}
use Rattle.rules.specs.BlockTable.{mark_subtree}
use Rattle.rules.specs.Removal.{removed}
use Rattle.rules.specs.Rebuild.{restarted}
use Rattle.rules.specs.Timer.{Ask, span_or, due, may_ask, asks_before, chosen, claimed, ask_at, recovery, mark_requested}
use Rattle.rules.specs.Answers.{done, freed, request, none_due}
use Rattle.rules.specs.Calls.{State, promote_call, remove_call, timer_call, restart_call, holds_active, remove, asked, timer, restart}
use Rattle.rules.specs.Promises.{Sound}
use Rattle.rules.proofs.Splits.{split, option?, and-true, true-not-false}
use Rattle.rules.proofs.Best.{best-holds}
use Rattle.rules.proofs.Kept.Table.{is_occupied}
use Rattle.rules.proofs.Kept.Steady.{steady-refl}
use Rattle.rules.proofs.Kept.Seats.{in_use, kept_by}
use Rattle.rules.proofs.Kept.Frame.{Good, All}
use Rattle.rules.proofs.Kept.Refresh.{stored-use}
use Rattle.rules.proofs.Kept.Remove.{remove-done}
use Rattle.rules.proofs.Kept.Rebuild.{restart-done, frame-trunk}
use Rattle.rules.proofs.Kept.Walked.{its_blocks, its_heads}
use Rattle.rules.proofs.Kept.Border.{sound-good}
use Rattle.rules.proofs.Kept.Went.{Went, quiet, turned-away}

-- ---- remove

module _ (s : State) (r : ℕ) (z : Sound s) where
  not-promote : (i : ℕ) → remove_call r ≡ promote_call i → ⊥
  not-promote i e = let q : ◌≡◌ {A = ℕ} 0 1 = cc in omega arith

  pub went-remove : Went (remove_call r) s (remove s r)
  unfolding remove
  went-remove = rw z.tree.shape (split (is_occupied (its_blocks s) r)
      (λ o. split (holds_active (its_blocks s) r)
      (λ e. rw (o, e) (turned-away (remove_call r) s 9 z))
      (λ e.
      let d = remove-done (its_blocks s) (its_heads s) s.active_head r (sound-good s z) o e in
      rw (o, e) (quiet (remove_call r) s (removed s.tables r) (freed (length (mark_subtree s.tables.blocks.parents s.tables.blocks.sequences r))) z
      d.0 d.1 (λ _. refl) (λ i q _. not-promote i q))))
      (λ o. rw o (turned-away (remove_call r) s 3 z)))

-- ---- restart

module _ (s : State) (now : ℕ) (z : Sound s) where
  restart-not : (i : ℕ) → restart_call now ≡ promote_call i → ⊥
  restart-not i e = let q : ◌≡◌ {A = ℕ} 0 1 = cc in omega arith

  pub went-restart : Went (restart_call now) s (restart s now)
  unfolding restart
  went-restart =
      let f = (sound-good s z).frame in
      let d = restart-done (its_blocks s) (its_heads s) s.active_head now f.roomy (frame-trunk (its_blocks s) (its_heads s) s.active_head f) in
      rw z.tree.shape (quiet (restart_call now) s (restarted s.tables now s.active_head) done z d.0 d.1 (λ _. refl) (λ i q _. restart-not i q))

-- ---- timer

-- only the request time of a head in use changes
requested-good : (s : State) (k now : ℕ) → Good (its_blocks s) (its_heads s) s.active_head All → in_use (its_heads s) k ≡ true
    → Good (its_blocks s) (with_requested (its_heads s) (mark_requested s.tables.heads.requested k now)) s.active_head All
unfolding mark_requested head_at kept_by
requested-good s k now g u =
    let f = g.frame in
    let r = f.roomy in
    record {
      frame = record {
        counts = f.counts;
        voids = f.voids;
        roomy = record { two = r.two; few = r.few; tailed = r.tailed; missed = r.missed; asked = simp length-set r.asked; arrived = r.arrived; flagged = r.flagged };
        blanks = λ j e.
            let ne : j ≢ k = λ q. true-not-false {b = in_use (its_heads s) k} u (rw q at e) in
            rw (get_or-set_other s.tables.heads.requested k j now 0 ne) (f.blanks j e);
        tips = f.tips;
        apart = f.apart;
        covered = f.covered;
        chained = f.chained;
      };
      anchored = g.anchored;
    }

module _ (s : State) (now : ℕ) (span : Option ℕ) (z : Sound s) where
  abbrev b : Blocks
  b = s.tables.blocks

  abbrev h : Heads
  h = s.tables.heads

  abbrev pick : Option ℕ
  pick = chosen b.hashes b.sequences h.tips h.requested h.connected now (span_or span)

  abbrev found : Option Ask
  found = recovery b.hashes b.sequences h.tips h.tails h.requested h.connected now (span_or span)

  timer-not : (i : ℕ) → timer_call now span ≡ promote_call i → ⊥
  timer-not i e = let q : ◌≡◌ {A = ℕ} 0 1 = cc in omega arith

  picked-use : (k : ℕ) → pick ≡ Some k → in_use h k ≡ true
  unfolding chosen may_ask
  picked-use k e =
      let c = best-holds (may_ask b.sequences h.tips h.requested h.connected now (span_or span)) (asks_before b.hashes b.sequences h.tips h.requested) (slots_of h.tips) k e in
      let d = and-true (stored h.tips h.connected k && leb (due (requested_at h.requested k) (span_or span)) now) (occupied b.sequences (tip_at h.tips k)) c.1 in
      stored-use h k (and-true (stored h.tips h.connected k) (leb (due (requested_at h.requested k) (span_or span)) now) d.0).0

  found_none : pick ≡ None → found ≡ None
  unfolding recovery
  found_none e = rw (e, recovery)

  found_some : (k : ℕ) → pick ≡ Some k → found ≡ ask_at b.sequences h.tails k
  unfolding recovery
  found_some k e = rw (e, recovery)

  ask-yes : (k : ℕ) → occupied b.sequences (tail_at h.tails k) ≡ true → ask_at b.sequences h.tails k ≡ Some (record { head = k; claims = claimed (sequence_at b.sequences (tail_at h.tails k)) })
  unfolding ask_at
  ask-yes k o = rw o

  ask-no : (k : ℕ) → occupied b.sequences (tail_at h.tails k) ≡ false → ask_at b.sequences h.tails k ≡ None
  unfolding ask_at
  ask-no k o = rw o

  silent : Went (timer_call now span) s (asked s now None)
  unfolding asked
  silent = quiet (timer_call now span) s s.tables none_due z (sound-good s z) (steady-refl NONE b) (λ _. refl) (λ i q _. timer-not i q)

  asking : (k claims : ℕ) → in_use h k ≡ true → Went (timer_call now span) s (asked s now (Some (record { head = k; claims = claims })))
  unfolding asked
  asking k claims u = quiet (timer_call now span) s (with_heads s.tables (with_requested h (mark_requested h.requested k now))) (request k claims (hash_at h.missing k)) z
      (requested-good s k now (sound-good s z) u) (steady-refl NONE b) (λ _. refl) (λ i q _. timer-not i q)

  pub went-timer : Went (timer_call now span) s (timer s now span)
  unfolding timer
  went-timer = rw z.tree.shape (option? pick
      (λ e. rw (found_none e) silent)
      (λ k e. split (occupied b.sequences (tail_at h.tails k))
      (λ o. rw (found_some k e, ask-yes k o) (asking k (claimed (sequence_at b.sequences (tail_at h.tails k))) (picked-use k e)))
      (λ o. rw (found_some k e, ask-no k o) silent)))
