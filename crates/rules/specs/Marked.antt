-- The values that 01 marks for proof ("One trial whole"), each as a definition gives it beside what 01 says.
use Rattle.std.specs.Prelude.{Bool, true, ◌&&◌, List, [], ◌∷◌, ℕ, eqb, pos, negsuc, replicate}
use Rattle.rules.specs.Kinds.{Sequence}
use Rattle.rules.specs.Hashes.{hash_length}
use Rattle.rules.specs.Records.{status_of, status_number}
use Rattle.rules.specs.BlockTable.{minus_one, adjusted}
use Rattle.rules.specs.Timer.{due, claimed, max_time}
use Rattle.rules.specs.Answers.{Answer, refused, done, slot, freed, hangs, shown, request, none_due, due_at, never_due}
use Rattle.rules.specs.Calls.{fresh_state, fresh, admit}
use Rattle.rules.specs.declared.BlockStatus.TheVariants.{Stored}

-- a value as given, and as it should be
pub record Mark : Type 0 where
  pub given : ℕ
  pub marked : ℕ

abbrev pub mark : (given marked : ℕ) → Mark
mark given marked = record { given = given; marked = marked }

-- the number of a refusal, and 0 for an answer that is none
abbrev pub refusal : (answer : Answer) → ℕ
refusal (refused number) = number
refusal done = 0
refusal (slot i) = 0
refusal (freed blocks) = 0
refusal (hangs blocks highest) = 0
refusal (shown rows) = 0
refusal (request head claims missing) = 0
refusal none_due = 0
refusal (due_at time) = 0
refusal never_due = 0

-- fresh over tables of n and m
unfoldable pub fresh_of : (n m : ℕ) → ℕ
fresh_of n m = refusal (fresh (fresh_state n m)).answer

-- admit of a sequence on fresh tables
unfoldable pub admit_of : (sequence : Sequence) → ℕ
admit_of sequence = refusal (admit (fresh_state 4 2) sequence (replicate hash_length 10) (replicate hash_length 9) 1).answer

unfoldable pub marks : List Mark
marks =
    mark (due 0 5) 0 ∷ mark (due 7 5) 12 ∷ mark (due max_time 1) max_time
    ∷ mark (adjusted 255 (pos 1)) 255 ∷ mark (adjusted 200 (pos 127)) 255 ∷ mark (adjusted 1 (pos 127)) 128
    ∷ mark (adjusted 0 minus_one) 0 ∷ mark (adjusted 3 (negsuc 127)) 0
    ∷ mark (status_of 6) (status_number Stored) ∷ mark (claimed 0) 0
    ∷ mark (fresh_of 1024 64) 0 ∷ mark (fresh_of 1025 64) 1 ∷ mark (fresh_of 1024 65) 1 ∷ mark (fresh_of 1024 1) 1
    ∷ mark (admit_of 4294967294) 0 ∷ mark (admit_of 4294967295) 4
    ∷ []

-- the test over the whole table
unfoldable pub all_as_marked : (table : List Mark) → Bool
all_as_marked [] = true
all_as_marked (x ∷ xs) = eqb x.given x.marked && all_as_marked xs
