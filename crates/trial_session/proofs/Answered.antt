-- A line's call on the front of the arrays is what the line does to the session that they hold.
use Rattle.std.specs.Prelude.{if◌then◌else◌, Option, Some, None}
use mathlib.Core.Path.{◌≡◌, refl, sym, ap, ◌∙◌}
use mathlib.Core.Bool.{Bool, true, false}
use mathlib.Core.List.{List}
use Prim.Native.Nat.{ℕ}
use native.Mathlib.Omega.{arith}
use Rattle.rules.specs.Records.{Tables}
use Rattle.rules.specs.Answers.{Answer, refused, done}
use Rattle.rules.specs.Calls.{State, Stepped, state_of, answering, refuse, shaped, fresh_state, fresh, blocks_in, heads_in}
use Rattle.rules.proofs.Splits.{split}
use Rattle.trial_lines.specs.Printing.{printed}
use Rattle.trial_lines.specs.declared.Line.{Line}
use Rattle.trial_lines.specs.declared.page.Page.{Page}
use Rattle.trial_lines.specs.declared.Line.TheVariants.{Fresh, Admit, Promote, Remove, Under, Screen, Timer, Restart}
use Rattle.trial_calls.specs.Calling.{called, line_said, is_refused, renews}
use Rattle.trial_fronts.specs.Fronts.{array_blocks, array_heads, Sized, front, behind, before, TellsFront}
use Rattle.trial_session.specs.Session.{unless_refused, line_done}
use Rattle.trial_session.specs.Held.{Held, held_with, state_in, asked, sizes_after, trial_after, held_line, DoesLine}
use Rattle.trial_session.specs.declared.Trial.{Trial}
use Rattle.trial_session.proofs.Sized.{sized-front, sized_fresh, front-shape, shaped-within}
use Rattle.trial_session.proofs.Laid.{laid_same, laid-is}

-- ---- fresh tables at the front of the arrays

-- an accepted N
fresh-accepted : (k j : ℕ) → shaped (fresh_state k j).tables ≡ true → fresh (fresh_state k j) ≡ answering (fresh_state k j) done
unfolding fresh
fresh-accepted k j e =
    let a = (sized_fresh k j).blocks.parents in
    let b = (sized_fresh k j).heads.tips in
    rw (e, a, b)

front-accepted : (k j : ℕ) (t : Tables) (a : ℕ) → Sized array_blocks array_heads t → shaped (fresh_state k j).tables ≡ true
    → fresh (state_of (front k j t) a) ≡ answering (fresh_state k j) done
unfolding fresh
front-accepted k j t a z e =
    let q : shaped (front k j t) ≡ true = front-shape k j t z ∙ e in
    let w = shaped-within k j e in
    let f = sized-front k j array_blocks array_heads t z in
    let n : blocks_in (front k j t) ≡ k = f.blocks.parents ∙ omega arith in
    let m : heads_in (front k j t) ≡ j = f.heads.tips ∙ omega arith in
    rw (q, n, m)

-- a refused N
fresh-refused : (k j : ℕ) → shaped (fresh_state k j).tables ≡ false → fresh (fresh_state k j) ≡ refuse (fresh_state k j) 1
unfolding fresh
fresh-refused k j e = rw e

front-refused : (k j : ℕ) (t : Tables) (a : ℕ) → Sized array_blocks array_heads t → shaped (fresh_state k j).tables ≡ false
    → fresh (state_of (front k j t) a) ≡ refuse (state_of (front k j t) a) 1
unfolding fresh
front-refused k j t a z e = let q : shaped (front k j t) ≡ false = front-shape k j t z ∙ e in rw q

-- ---- a line

-- what a line does to what is held, where it leaves arrays u and a trial z
abbrev Does : (h : Held) (line : Option Line) (page : Page) (u : Tables) (z : Trial) (next : Page) → Type 0
Does h line page u z next = DoesLine h line page (held_with u z h.begun) next

module _ (h : Held) (u : Tables) (page next : Page) (b : ℕ) where
  -- where its sizes are those of a and the answer on its front is d
  comes : (line : Option Line) (a : Trial) (d : Stepped) → line_done (state_in h) line ≡ d
      → trial_after h.trial line d ≡ sizes_after a b
      → state_of (front a.n a.m u) b ≡ d.after → behind a.n a.m u ≡ behind a.n a.m h.arrays
      → next ≡ printed page (line_said line d.answer) → Does h line page u (sizes_after a b) next
  unfolding held_line sizes_after state_in
  comes line a d is after left rest text =
      let f : front a.n a.m u ≡ d.after.tables = ap (λ (s : State). s.tables) left in
      let l = laid-is a.n a.m h.arrays u d.after.tables f rest in
      let laid : Stepped → Trial → Held = λ x y. held_with (before x.after.tables (behind y.n y.m h.arrays)) y h.begun in
      record {
        held = ap (λ (x : Tables). held_with x (sizes_after a b) h.begun) l ∙ ap (laid d) (sym after)
            ∙ ap (λ (x : Stepped). laid x (trial_after h.trial line x)) (sym is);
        state = left ∙ ap (λ (x : Stepped). x.after) (sym is);
        said = text ∙ ap (λ (x : Stepped). printed page (line_said line x.answer)) (sym is);
      }

  -- a call on the tables that are there
  plain : (line : Option Line) (renewed : Bool) → line_done (state_in h) line ≡ called (state_in h) line
      → ((answer : Answer) → renews line answer ≡ false)
      → TellsFront h.trial.n h.trial.m h.arrays h.trial.active.0 line page u b renewed next
      → Does h line page u (sizes_after (if renewed then h.trial else h.trial) b) next
  unfolding state_in trial_after
  plain line renewed is never (tell, rest) =
      let d = called (state_in h) line in
      let r : renewed ≡ false = tell.anew ∙ never d.answer in
      let head : b ≡ d.after.active_head = ap (λ (s : State). s.active_head) tell.left in
      let after : trial_after h.trial line d ≡ sizes_after h.trial b = rw (never d.answer) (ap (sizes_after h.trial) (sym head)) in
      rw r (comes line h.trial d is after tell.left rest tell.text)

  -- new tables, or the old ones where they are refused
  anew : (n m : ℕ) (renewed : Bool) → Sized array_blocks array_heads h.arrays
      → TellsFront n m h.arrays h.trial.active.0 (Some (Fresh n m)) page u b renewed next
      → Does h (Some (Fresh n m)) page u (sizes_after (if renewed then asked h.trial (Some (Fresh n m)) else h.trial) b) next
  unfolding state_in trial_after called line_done unless_refused is_refused renews asked
  anew n m renewed sized (tell, rest) =
      let t = h.arrays in
      let z = h.trial in
      let line = Some (Fresh n m) in
      let said : Stepped → List ℕ = λ x. line_said line x.answer in
      let told : (d : Stepped) → fresh (state_of (front n m t) z.active.0) ≡ d → next ≡ printed page (said d) =
      λ d is. tell.text ∙ ap (λ (x : Stepped). printed page (said x)) is in
      split (shaped (fresh_state n m).tables)
      (λ e. let d = answering (fresh_state n m) done in
      let is : fresh (state_of (front n m t) z.active.0) ≡ d = front-accepted n m t z.active.0 sized e in
      let r : renewed ≡ true = tell.anew ∙ ap (λ (x : Stepped). renews line x.answer) is in
      let left : state_of (front n m u) b ≡ fresh_state n m = tell.left ∙ ap (λ (x : Stepped). x.after) is in
      let head : (fresh_state n m).active_head ≡ b = sym (ap (λ (x : State). x.active_head) left) in
      rw r (comes line (asked z line) d (rw (fresh-accepted n m e)) (ap (sizes_after (asked z line)) head) left rest
      (told d is)))
      (λ e. let d = answering (state_in h) (refused 1) in
      let is : fresh (state_of (front n m t) z.active.0) ≡ refuse (state_of (front n m t) z.active.0) 1 =
      front-refused n m t z.active.0 sized e in
      let r : renewed ≡ false = tell.anew ∙ ap (λ (x : Stepped). renews line x.answer) is in
      let left : state_of (front n m u) b ≡ state_of (front n m t) z.active.0 = tell.left ∙ ap (λ (x : Stepped). x.after) is in
      let head : z.active.0 ≡ b = sym (ap (λ (x : State). x.active_head) left) in
      let same : u ≡ t = laid_same n m t u (ap (λ (x : State). x.tables) left) rest in
      rw r (comes line z d (rw (fresh-refused n m e)) (ap (sizes_after z) head) (rw (same, ← head)) (rw same)
      (told (refuse (state_of (front n m t) z.active.0) 1) is)))

  -- ---- every line

  line-comes : (line : Option Line) (renewed : Bool) → Sized array_blocks array_heads h.arrays
      → TellsFront (asked h.trial line).n (asked h.trial line).m h.arrays h.trial.active.0 line page u b renewed next
      → Does h line page u (sizes_after (if renewed then asked h.trial line else h.trial) b) next
  unfolding asked line_done renews
  line-comes (Some (Fresh n m)) renewed sized tells = anew n m renewed sized tells
  line-comes (Some (Admit sequence hash previous arrival)) renewed sized tells =
      plain (Some (Admit sequence hash previous arrival)) renewed refl (λ a. refl) tells
  line-comes (Some (Promote slot)) renewed sized tells = plain (Some (Promote slot)) renewed refl (λ a. refl) tells
  line-comes (Some (Remove slot)) renewed sized tells = plain (Some (Remove slot)) renewed refl (λ a. refl) tells
  line-comes (Some (Under slot)) renewed sized tells = plain (Some (Under slot)) renewed refl (λ a. refl) tells
  line-comes (Some Screen) renewed sized tells = plain (Some Screen) renewed refl (λ a. refl) tells
  line-comes (Some (Timer now retry)) renewed sized tells = plain (Some (Timer now retry)) renewed refl (λ a. refl) tells
  line-comes (Some (Restart now)) renewed sized tells = plain (Some (Restart now)) renewed refl (λ a. refl) tells
  line-comes None renewed sized tells = plain None renewed refl (λ a. refl) tells

  pub line-does : (sizes z : Trial) (line : Option Line) (renewed : Bool)
      → TellsFront sizes.n sizes.m h.arrays h.trial.active.0 line page u b renewed next
      → sizes ≡ asked h.trial line → z ≡ sizes_after (if renewed then sizes else h.trial) b → Sized array_blocks array_heads h.arrays
      → Does h line page u z next
  line-does sizes z line renewed tells asks after sized = rw (after, asks) (line-comes line renewed sized (rw asks at tells))
