-- What a contract says of a call, from what its rule comes to.
use mathlib.Core.Path.{◌≡◌, refl, sym, ap, ◌∙◌}
use Prim.Native.Nat.{ℕ}
use Rattle.rules.specs.Records.{Tables}
use Rattle.rules.specs.Answers.{Answer, refused}
use Rattle.rules.specs.Calls.{State, Stepped, answering, refuse, Does, Sets}

module _ {rule : Stepped} {said : Answer} {left : Tables} (s : State) (e : rule ≡ answering s said) (t : left ≡ s.tables) where
  pub does : Does said left rule
  does = record { answers = sym (ap (λ (r : Stepped). r.answer) e); leaves = t ∙ sym (ap (λ (r : Stepped). r.after.tables) e) }

  pub sets : Sets said s.active_head left rule
  sets = record {
    answers = does.answers;
    records = sym (ap (λ (r : Stepped). r.after.active_head) e);
    leaves = does.leaves;
  }

pub refuses : {rule : Stepped} {s : State} {number : ℕ} → rule ≡ refuse s number → Does (refused number) s.tables rule
refuses e = does _ e refl

pub refuses-set : {rule : Stepped} {s : State} {number : ℕ} → rule ≡ refuse s number → Sets (refused number) s.active_head s.tables rule
refuses-set e = sets _ e refl
