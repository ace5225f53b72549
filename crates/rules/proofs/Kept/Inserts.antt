-- `Inserts` (specs/Promises.antt) leaves out no place where a head is inserted.
use mathlib.Core.Path.{◌≡◌, refl, ap, ◌∙◌}
use mathlib.Core.Logic.{◌⊎◌, inl, inr}
use mathlib.Core.List.{List}
use Rattle.std.specs.Prelude.{Option, Some}
use Prim.Native.Nat.{ℕ, suc}
use native.Mathlib.Omega.{arith}
use Rattle.rules.specs.Common.{in_order}
use Rattle.rules.specs.Hashes.{zero_hash}
use Rattle.rules.specs.Records.{NONE, Tables, slots_of}
use Rattle.rules.specs.Caches.{slot_of_head}
use Rattle.rules.specs.Admission as admission
use Rattle.rules.specs.Admission.{one_more, insert_head, move_up, place_head, resolve_tails, admitted, refresh_tails}
use Rattle.rules.specs.Rebuild.{is_leaf, rebuild_at, rebuilt_below, rebuild_heads, rebuilt, headless, restarted}
use Rattle.rules.specs.Answers.{slot, done}
use Rattle.rules.specs.Calls.{State, Call, admit_call, restart_call, step, shaped, parent_found, inserted, admit_at, restart}
use Rattle.rules.specs.Promises.{Inserts, root, fork, again}
use Rattle.rules.proofs.Splits.{split, option?}
use Rattle.rules.proofs.Kept.AdmitStep.{admit-slot}

module _ (s : State) (q : ℕ) (hash previous : List ℕ) (arrival i : ℕ) where
  abbrev call : Call
  call = admit_call q hash previous arrival

  -- the new block's head is in its place: what is left of admit
  abbrev settled : Tables → Tables
  settled w = refresh_tails (resolve_tails w i previous)

  abbrev Inserted : Tables → Type 0
  Inserted after = (w : Tables) × Inserts s call w × (after ≡ settled (insert_head w i i previous arrival s.active_head))

  abbrev MovedUp : Tables → Type 0
  MovedUp after = (k : ℕ) × (after ≡ settled (move_up (one_more (inserted s i q hash previous) i) k i previous arrival))

  at_slot : (step s call).answer ≡ slot i → (step s call).after.tables ≡ admit_at s i q hash previous arrival
  unfolding step
  at_slot e = rw (admit-slot s q hash previous arrival i e).1 refl

  from_parent : (p : ℕ) → parent_found s q previous ≡ Some p
      → admit_at s i q hash previous arrival ≡ refresh_tails (admitted (inserted s i q hash previous) i (Some p) previous arrival s.active_head)
  unfolding admit_at
  from_parent p m = ap (λ (o : Option ℕ). refresh_tails (admitted (inserted s i q hash previous) i o previous arrival s.active_head)) m

  -- an accepted admit inserts its head into tables of `Inserts`, or moves one up
  pub admit-inserts : (step s call).answer ≡ slot i → Inserted (step s call).after.tables ⊎ MovedUp (step s call).after.tables
  unfolding admit_at admitted place_head admission.fork
  admit-inserts e = option? (parent_found s q previous)
      (λ n. inl (_, root q hash previous arrival i e n, at_slot e ∙ rw n refl))
      (λ p m. option? (slot_of_head s.tables.heads.tips p)
      (λ n. inl (_, fork q hash previous arrival i p e m n, at_slot e ∙ (from_parent p m ∙ rw (n, place_head) refl)))
      (λ k n. inr (k, at_slot e ∙ (from_parent p m ∙ rw (n, place_head) refl))))

module _ (s : State) (now : ℕ) where
  abbrev half : ℕ → Tables
  half i = rebuilt_below i (headless s.tables) now s.active_head

  -- an accepted restart goes through all slots
  pub restart-halves : (step s (restart_call now)).answer ≡ done → (step s (restart_call now)).after.tables.heads ≡ (half (slots_of s.tables.blocks.sequences)).heads
  unfolding step restart restarted rebuilt rebuild_heads
  restart-halves e = split (shaped s.tables)
      (λ f. rw f refl)
      (λ f. let g = rw f at e in let o : ◌≡◌ {A = ℕ} 0 1 = cc in absurd (omega arith))

  -- at each it inserts a head into tables of `Inserts`, or changes nothing
  pub restart-inserts : (i : ℕ) → (step s (restart_call now)).answer ≡ done
      → (Inserts s (restart_call now) (half i) × (half (suc i) ≡ insert_head (half i) i NONE zero_hash now s.active_head)) ⊎ (half (suc i) ≡ half i)
  unfolding in_order rebuild_at
  restart-inserts i e = split (is_leaf (half i) i)
      (λ l. inl (again now i e l, rw l refl))
      (λ l. inr (rw l refl))
