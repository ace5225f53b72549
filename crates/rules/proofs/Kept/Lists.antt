-- Lists of calls: the promises go from call to call, and the log grows by each.
use Rattle.std.specs.Prelude.{if◌then◌else◌, Option, None}
use mathlib.Core.Path.{◌≡◌, refl, sym, ap, ◌∙◌}
use mathlib.Core.Logic.{◌⊎◌, inl, inr}
use mathlib.Core.List.{List, [], ◌∷◌, ◌++◌, append-nil, append_assoc}
use Prim.Native.Nat.{ℕ}
use native.Mathlib.Omega.{arith}
use lib.ListN.{length}
use Rattle.rules.specs.Common.{is_at}
use Rattle.rules.specs.Calls.{State, Call, admit_call, promote_call, remove_call, timer_call, restart_call, step, run}
use Rattle.rules.specs.Promises.{Active, Name, name, Made, made, Accepted, Promoted, accepts, later, slot_returned, name_given, last_admitted, Sound, Recorded, Promise}
use Rattle.rules.proofs.Kept.Went.{Went}
use Rattle.rules.proofs.Kept.Steps.{went-remove, went-restart, went-timer}
use Rattle.rules.proofs.Kept.PromoteStep.{went-promote}
use Rattle.rules.proofs.Kept.AdmitStep.{went-admit}
use Rattle.rules.proofs.Kept.Victims.{finds-victims}

pub step_went : (call : Call) (s : State) → Sound s → Went call s (step s call)
unfolding step
step_went (admit_call q hash previous arrival) s z = went-admit s q hash previous arrival z
step_went (promote_call i) s z = went-promote s i z
step_went (remove_call i) s z = went-remove s i z
step_went (timer_call now span) s z = went-timer s now span z
step_went (restart_call now) s z = went-restart s now z

-- ---- a log that goes on

promoted-before : (i : ℕ) (log more : List Made) → Promoted i log → Promoted i (log ++ more)
promoted-before i log more (accepts answer rest a) = accepts answer (rest ++ more) a
promoted-before i log more (later m rest p) = later m (rest ++ more) (promoted-before i rest more p)

promoted-since : (i : ℕ) (log more : List Made) → Promoted i more → Promoted i (log ++ more)
promoted-since i [] more p = p
promoted-since i (m ∷ log) more p = later m (log ++ more) (promoted-since i log more p)

pub none-promoted : (i : ℕ) (log : List Made) → length log ≡ 0 → Promoted i log → ⊥
none-promoted i log e (accepts answer rest a) = omega arith
none-promoted i log e (later m rest p) = omega arith

promoted-one : (i : ℕ) (log : List Made) → Promoted i log → (m : Made) (rest : List Made) → log ≡ m ∷ rest → ((m.call ≡ promote_call i) × Accepted m.answer) ⊎ Promoted i rest
promoted-one i log (accepts answer before a) m rest e =
    let q : record { call = promote_call i; answer = answer } ≡ m = cc in
    inl (ap (λ (x : Made). x.call) (sym q), λ n c. a n (ap (λ (x : Made). x.answer) q ∙ c))
promoted-one i log (later k before p) m rest e = let q : before ≡ rest = cc in inr (rw (← q) p)

promoted-either : (i : ℕ) (log more : List Made) → Promoted i (log ++ more) → Promoted i log ⊎ Promoted i more
promoted-either i [] more p = inr p
promoted-either i (m ∷ log) more p = elim (promoted-one i (m ∷ log ++ more) p m (log ++ more) refl) [
  | inl w ↦ inl (first_of w.0 w.1)
  | inr q ↦ elim (promoted-either i log more q) [ inl a ↦ inl (later m log a) | inr b ↦ inr b ]
]
  where
    first_of : m.call ≡ promote_call i → Accepted m.answer → Promoted i (m ∷ log)
    first_of e a =
        let q : m ≡ record { call = promote_call i; answer = m.answer } = ap (λ (c : Call). record { call = c; answer = m.answer }) e in
        rw q (accepts m.answer log a)

last-append : (i : ℕ) (was : Option Name) (log more : List Made) → last_admitted i was (log ++ more) ≡ last_admitted i (last_admitted i was log) more
unfolding last_admitted
last-append i was [] more = refl
last-append i was (m ∷ log) more = last-append i (if is_at (slot_returned m.answer) i then name_given m.call else was) log more

-- ---- one call

abbrev entry : State → Call → Made
entry s call = record { call = call; answer = (step s call).answer }

pub recorded-step : (log : List Made) (s : State) (call : Call) → Recorded log s → Went call s (step s call) → Recorded (log ++ entry s call ∷ []) (step s call).after
unfolding last_admitted
recorded-step log s call r w = record {
  promoted = λ i. (
    λ a. elim (w.only i a) [
      | inl b ↦ promoted-before i log (entry s call ∷ []) ((r.promoted i).0 b)
      | inr c ↦ promoted-since i log (entry s call ∷ [])
          (let q : entry s call ≡ record { call = promote_call i; answer = (step s call).answer } = ap (λ (x : Call). record { call = x; answer = (step s call).answer }) c.0 in
          rw q (accepts (step s call).answer [] c.1))
    ],
    λ p. elim (promoted-either i log (entry s call ∷ []) p) [
      | inl b ↦ (w.stays i ((r.promoted i).1 b)).0
      | inr b ↦ elim (promoted-one i (entry s call ∷ []) b (entry s call) [] refl) [
        | inl c ↦ w.new i c.0 c.1
        | inr c ↦ absurd (none-promoted i [] refl c)
      ]
    ],
  );
  admitted = λ i o. last-append i None log (entry s call ∷ []) ∙ w.given i (last_admitted i None log) o (λ b. r.admitted i b);
}

-- ---- the list

pub list-kept : (calls : List Call) (log : List Made) (s : State) → Sound s → Recorded log s → Sound (run s calls) × Recorded (log ++ made s calls) (run s calls)
unfolding run made
list-kept [] log s z r = (z, rw (append-nil log) r)
list-kept (call ∷ calls) log s z r =
    let w = step_went call s z in
    let k = list-kept calls (log ++ entry s call ∷ []) (step s call).after w.sound (recorded-step log s call r w) in
    (k.0, rw (← append_assoc log (entry s call ∷ []) (made (step s call).after calls)) k.1)

-- an active block keeps its name
list-stays : (calls : List Call) (s : State) → Sound s → (i : ℕ) → Active s i → Active (run s calls) i × (name (run s calls) i ≡ name s i)
unfolding run
list-stays [] s z i a = (a, refl)
list-stays (call ∷ calls) s z i a =
    let w = step_went call s z in
    let p = w.stays i a in
    let q = list-stays calls (step s call).after w.sound i p.0 in
    (q.0, q.1 ∙ p.1)

list-sound : (calls : List Call) (s : State) → Sound s → Sound (run s calls)
unfolding run
list-sound [] s z = z
list-sound (call ∷ calls) s z = list-sound calls (step s call).after (step_went call s z).sound

run-append : (calls more : List Call) (s : State) → run s (calls ++ more) ≡ run (run s calls) more
unfolding run
run-append [] more s = refl
run-append (call ∷ calls) more s = run-append calls more (step s call).after

-- from any state of which the promises hold
pub list-promise : (log : List Made) (s : State) → Sound s → Recorded log s → (calls : List Call) → Promise log s calls
list-promise log s z r calls =
    let k = list-kept calls log s z r in
    record {
      sound = k.0;
      recorded = k.1;
      stays = λ more i p.
          let q = list-stays more (run s calls) k.0 i ((k.1.promoted i).1 p) in
          let v = list-sound more (run s calls) k.0 in
          rw (run-append calls more s) ((v.tree.line i q.0).0, q.0, q.1);
      victims = λ call. finds-victims (run s calls) k.0 call;
    }
