-- The records of a screen, filled into a list one after the other: they are what the call's rule writes.
use mathlib.Core.Path.{◌≡◌, refl, sym, ap, ◌∙◌}
use mathlib.Core.List.{List}
use Prim.Native.Nat.{ℕ, zero, suc, ◌+◌}
use native.Mathlib.Numerals.{add-one}
use native.Mathlib.Omega.{arith}
use lib.ListN.{length, get_or, set, length-append}
use lib.Seq.{sets}
use Rattle.std.specs.Prelude.{Result, Ok, Err}
use Rattle.std.specs.Result.{result_unwrap_or}
use Rattle.rules.specs.Records.{Tables}
use Rattle.rules.specs.Screen.{row_of}
use Rattle.rules.specs.Answers.{Answer}
use Rattle.rules.specs.Calls.{Stepped}
use Rattle.rules.specs.declared.HeadRow.{HeadRow}
use Rattle.rules.specs.declared.Refusal.{Refusal}
use Rattle.rules.proofs.Cells.{sets-append}
use Rattle.screen_call.specs.Keys.{head_in, rows_in, rows_of, screen_rows, Screens}
use Rattle.call_numbers.specs.Numbers.{answer_number, result_number, rows_to}

-- ---- one by one

module _ (sequences tips tails connected keys : List ℕ) where
  abbrev rows : ℕ → List HeadRow
  rows k = rows_in sequences tips tails connected keys k

  abbrev row : ℕ → HeadRow
  row k = row_of sequences tips tails connected (head_in (get_or keys k 0))

  pub rows-length : (k : ℕ) → length (rows k) ≡ k
  unfolding rows_in
  rows-length zero = refl
  rows-length (suc k) = length-append (rows k) _ ∙ omega (arith, rows-length k)

  pub fill_none : (list : List HeadRow) → sets list 0 (rows 0) ≡ list
  unfolding rows_in
  fill_none list = refl

  pub fill_next : (list : List HeadRow) (k : ℕ) → sets list 0 (rows (k + 1)) ≡ set (sets list 0 (rows k)) k (row k)
  unfolding rows_in
  fill_next list k =
      let e : 0 + length (rows k) ≡ k = omega (arith, rows-length k) in
      rw add-one (sets-append list (rows k) (row k) 0 ∙ ap (λ (j : ℕ). set (sets list 0 (rows k)) j (row k)) e)

-- ---- as many as are answered, none of a refusal

pub unwrapped : (answer : Result ℕ Refusal) → result_unwrap_or answer 0 ≡ rows_of answer
unwrapped (Ok n) = refl
unwrapped (Err why) = refl

module _ {t left : Tables} {keys keys' : List ℕ} {room : ℕ} {rule : Stepped} where
  pub number-shown : (answer : Result ℕ Refusal) → Screens answer t left keys keys' room rule → result_number (λ n. n) answer ≡ answer_number rule.answer
  number-shown (Ok n) s = sym (rows-length _ _ _ _ keys' n) ∙ ap answer_number s.does.answers
  number-shown (Err why) s = ap answer_number s.does.answers

  pub rows-shown : (answer : Result ℕ Refusal) → Screens answer t left keys keys' room rule → (list : List HeadRow)
      → sets list 0 (screen_rows t keys' answer) ≡ rows_to rule.answer list
  rows-shown (Ok n) s list = ap (λ (said : Answer). rows_to said list) s.does.answers
  rows-shown (Err why) s list = fill_none _ _ _ _ keys' list ∙ ap (λ (said : Answer). rows_to said list) s.does.answers
