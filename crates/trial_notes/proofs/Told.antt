-- A line has a fault exactly where it is unread, so that a note is written exactly where `?` is printed.
use mathlib.Core.Path.{◌≡◌, refl, sym, ap, ◌∙◌}
use mathlib.Core.Bool.{Bool, true, false, ◌&&◌, ◌||◌}
use mathlib.Core.List.{List, [], ◌∷◌}
use Rattle.std.specs.Prelude.{Option, None, Some, is_some, is_none, option_map}
use Rattle.std.specs.Option.{option_or}
use Prim.Native.Nat.{ℕ, zero, suc, ◌+◌, ◌-◌, ◌<◌}
use native.Mathlib.Omega.{arith}
use borrow.Author.Tests.{eq-eqb, ltb-true, eqb-true}
use lib.Dec.{eqb, ltb}
use lib.ListN.{length, get_or, drop, length-drop}
use lib.Seq.{get_or-drop}
use Rattle.rules.proofs.Splits.{split, true-not-false, and-true, and_false_r}
use Rattle.trial_lines.specs.Begun.{Begun, so_far, too_long, line_begun}
use Rattle.trial_lines.specs.Reading.{field_length, first, rest, letter, is_digit, all_digits, number, word_most, time_most, hash_byte, ◌>>=◌, fresh_of, admit_of, slot_of, screen_read, timer_of, parse}
use Rattle.rules.specs.declared.BlockSlot.{BlockSlot}
use Rattle.trial_lines.specs.declared.Line.{Line}
use Rattle.trial_lines.specs.declared.Line.TheVariants.{Fresh, Admit, Promote, Remove, Under, Timer, Restart}
use Rattle.trial_lines.proofs.Bytes.{number-empty, number-not}
use Rattle.trial_notes.specs.Faults.{found, number_fault, word_fault, time_fault, hash_reason, hash_fault, inner, last, fresh_fault, admit_fault, timer_fault, screen_fault, letter_reason, fields_fault, last_byte, fault_of}
use Rattle.trial_notes.specs.Notes.{begun_fault}
use Rattle.trial_notes.specs.declared.Reason.{Reason}

-- ---- a field by itself

found_some : (o : Option ℕ) (why : Reason) → is_none (found o why) ≡ is_some o
found_some None why = refl
found_some (Some n) why = refl

number-told : (most : ℕ) (larger : Reason) (field : List ℕ) → is_none (number_fault most larger field) ≡ is_some (number most field)
unfolding number_fault
number-told most larger field =
    split (eqb (length field) 0)
    (λ e. rw (e, number-empty most field (eqb-true (length field) 0 e)))
    (λ e. split (all_digits field)
    (λ d. rw (e, d) (found_some (number most field) larger))
    (λ d. rw (e, d, number-not most field d)))

hash-empty : (field : List ℕ) → length field ≡ 0 → hash_byte field ≡ None
unfolding hash_byte
hash-empty field e = rw e

hash-told : (field : List ℕ) → is_none (hash_fault field) ≡ is_some (hash_byte field)
unfolding hash_fault
hash-told field =
    split (eqb (length field) 0)
    (λ e. rw (e, hash-empty field (eqb-true (length field) 0 e)))
    (λ e. rw e (found_some (hash_byte field) (hash_reason field)))

-- ---- a field where it stands

no-first : (left : List ℕ) → get_or left 0 0 ≡ 32 → field_length left ≡ 0
unfolding field_length
no-first [] e = refl
no-first (b ∷ left) e = rw (eq-eqb b 32 e)

empty-first : (left : List ℕ) → get_or left 0 0 ≡ 32 → first left ≡ []
empty-first left e = rw (no-first left e)

inner-number : (most : ℕ) (larger : Reason) (left : List ℕ) → is_none (inner (number_fault most larger) left) ≡ is_some (number most (first left))
unfolding inner
inner-number most larger left =
    split (eqb (get_or left 0 0) 32)
    (λ e. rw (e, empty-first left (eqb-true (get_or left 0 0) 32 e), number-empty most [] refl))
    (λ e. rw e (number-told most larger (first left)))

inner-hash : (left : List ℕ) → is_none (inner hash_fault left) ≡ is_some (hash_byte (first left))
unfolding inner
inner-hash left =
    split (eqb (get_or left 0 0) 32)
    (λ e. rw (e, empty-first left (eqb-true (get_or left 0 0) 32 e), hash-empty [] refl))
    (λ e. rw e (hash-told (first left)))

-- a space is no digit
spaced : (left : List ℕ) → field_length left < length left → all_digits left ≡ false
unfolding field_length all_digits
spaced [] h = absurd (omega arith)
spaced (b ∷ left) h =
    split (eqb b 32)
    (λ e. let q : b ≡ 32 = eqb-true b 32 e in rw q)
    (λ e. let k : 1 + field_length left < suc (length left) = rw e at h in
    and_false_r (is_digit b) (all_digits left) (spaced left (omega arith)))

spaced-first : (left : List ℕ) → get_or left 0 0 ≡ 32 → field_length left < length left
spaced-first [] e = absurd (omega arith)
spaced-first (b ∷ left) e = omega (arith, no-first (b ∷ left) e)

last-number : (most : ℕ) (larger : Reason) (left : List ℕ) → is_none (last (number_fault most larger) left) ≡ is_some (number most left)
unfolding last
last-number most larger left =
    split (eqb (get_or left 0 0) 32)
    (λ e. rw (e, number-not most left (spaced left (spaced-first left (eqb-true (get_or left 0 0) 32 e)))))
    (λ e. split (ltb (field_length left) (length left))
    (λ h. rw (e, h, number-not most left (spaced left (ltb-true (field_length left) (length left) h))))
    (λ h. rw (e, h) (number-told most larger left)))

-- ---- what follows the letter

both-none : (fault later : Option Reason) → is_none (option_or fault later) ≡ (is_none fault && is_none later)
both-none None later = refl
both-none (Some why) later = refl

one-read : {A B : Type 0} (line : A → B) (field : Option A) → is_some field ≡ is_some (option_map line field)
one-read line None = refl
one-read line (Some k) = refl

two-read : (line : ℕ → ℕ → Line) (n m : Option ℕ) → (is_some n && is_some m) ≡ is_some (n >>= λ a. m >>= λ b. Some (line a b))
two-read line None m = refl
two-read line (Some n) None = refl
two-read line (Some n) (Some m) = refl

four-read : (line : ℕ → ℕ → ℕ → ℕ → Line) (n m o p : Option ℕ)
    → (is_some n && (is_some m && (is_some o && is_some p))) ≡ is_some (n >>= λ a. m >>= λ b. o >>= λ c. p >>= λ d. Some (line a b c d))
four-read line None m o p = refl
four-read line (Some n) None o p = refl
four-read line (Some n) (Some m) None p = refl
four-read line (Some n) (Some m) (Some o) None = refl
four-read line (Some n) (Some m) (Some o) (Some p) = refl

abbrev admits : ℕ → ℕ → ℕ → ℕ → Line
admits sequence = Admit (record { 0 = sequence })

fresh-told : (fields : List ℕ) → is_none (fresh_fault fields) ≡ is_some (fresh_of fields)
unfolding fresh_fault fresh_of
fresh-told fields =
    both-none (inner word_fault fields) (last word_fault (rest fields))
    ∙ rw (inner-number word_most _ fields, last-number word_most _ (rest fields)) (two-read Fresh _ _)

timer-told : (fields : List ℕ) → is_none (timer_fault fields) ≡ is_some (timer_of fields)
unfolding timer_fault timer_of
timer-told fields =
    both-none (inner time_fault fields) (last time_fault (rest fields))
    ∙ rw (inner-number time_most _ fields, last-number time_most _ (rest fields)) (two-read Timer _ _)

admit-told : (fields : List ℕ) → is_none (admit_fault fields) ≡ is_some (admit_of fields)
unfolding admit_fault admit_of
admit-told fields =
    let hashes = rest fields in
    let later = rest hashes in
    both-none (inner word_fault fields) (option_or (inner hash_fault hashes) (option_or (inner hash_fault later) (last time_fault (rest later))))
    ∙ rw (
      both-none (inner hash_fault hashes) (option_or (inner hash_fault later) (last time_fault (rest later))),
      both-none (inner hash_fault later) (last time_fault (rest later)),
      inner-number word_most _ fields,
      inner-hash hashes,
      inner-hash later,
      last-number time_most _ (rest later),
    ) (four-read admits (number word_most (first fields)) (hash_byte (first hashes)) (hash_byte (first later)) (number time_most (rest later)))

slot-read : (line : BlockSlot → Line) (fields : List ℕ) → is_some (number word_most fields) ≡ is_some (option_map line (slot_of fields))
unfolding slot_of
slot-read line fields = one-read _ (number word_most fields) ∙ one-read line _

screen-told : (line : List ℕ) → is_none (screen_fault line) ≡ is_some (screen_read line)
unfolding screen_fault screen_read
screen-told line =
    split (eqb (length line) 1)
    (λ e. rw e)
    (λ e. split (eqb (get_or line 2 0) 32) (λ f. rw (e, f)) (λ f. rw (e, f)))

fields_told : (line : List ℕ) → is_none (fields_fault line) ≡ is_some (parse line)
unfolding fields_fault letter_reason parse
fields_told line =
    split (eqb (letter line) 78)
    (λ e. rw e (fresh-told (rest line)))
    (λ a. split (eqb (letter line) 65)
    (λ e. rw (a, e) (admit-told (rest line)))
    (λ b. split (eqb (letter line) 80)
    (λ e. rw (a, b, e) (last-number word_most _ (rest line) ∙ slot-read Promote (rest line)))
    (λ c. split (eqb (letter line) 68)
    (λ e. rw (a, b, c, e) (last-number word_most _ (rest line) ∙ slot-read Remove (rest line)))
    (λ d. split (eqb (letter line) 85)
    (λ e. rw (a, b, c, d, e) (last-number word_most _ (rest line) ∙ slot-read Under (rest line)))
    (λ f. split (eqb (letter line) 86)
    (λ e. rw (a, b, c, d, f, e) (screen-told line))
    (λ g. split (eqb (letter line) 84)
    (λ e. rw (a, b, c, d, f, g, e) (timer-told (rest line)))
    (λ h. split (eqb (letter line) 82)
    (λ e. rw (a, b, c, d, f, g, h, e) (last-number time_most _ (rest line) ∙ one-read Restart (number time_most (rest line))))
    (λ e. rw (a, b, c, d, f, g, h, e)))))))))

-- ---- the line as a whole: what is read ends in a digit, or is V

abbrev Ends : List ℕ → Type 0
Ends bytes = (0 < length bytes) × (is_digit (last_byte bytes) ≡ true)

digits-at : (bytes : List ℕ) (i : ℕ) → all_digits bytes ≡ true → i < length bytes → is_digit (get_or bytes i 0) ≡ true
unfolding all_digits
digits-at [] i d h = absurd (omega arith)
digits-at (b ∷ bytes) zero d h = (and-true (is_digit b) (all_digits bytes) d).0
digits-at (b ∷ bytes) (suc i) d h = digits-at bytes i (and-true (is_digit b) (all_digits bytes) d).1 (omega arith)

number-ends : (most : ℕ) (bytes : List ℕ) → is_some (number most bytes) ≡ true → Ends bytes
unfolding number
number-ends most bytes s =
    split (ltb 0 (length bytes))
    (λ h. split (all_digits bytes)
    (λ d. let l = ltb-true 0 (length bytes) h in (l, digits-at bytes (length bytes - 1) d (omega arith)))
    (λ d. true-not-false s (rw (h, d))))
    (λ h. true-not-false s (rw h))

drop-ends : (k : ℕ) (l : List ℕ) → Ends (drop k l) → Ends l
drop-ends k l (h, d) =
    let n = length-drop k l in
    let i : k + (length (drop k l) - 1) ≡ length l - 1 = omega arith in
    let e : last_byte (drop k l) ≡ last_byte l = get_or-drop k l (length (drop k l) - 1) 0 ∙ ap (λ (x : ℕ). get_or l x 0) i in
    (omega arith, rw e at d)

fresh-ends : (fields : List ℕ) → is_some (fresh_of fields) ≡ true → Ends fields
unfolding fresh_of
fresh-ends fields r =
    let n = number word_most (first fields) in
    let m = number word_most (rest fields) in
    drop-ends (suc (field_length fields)) fields (number-ends word_most (rest fields) (and-true (is_some n) (is_some m) (two-read Fresh n m ∙ r)).1)

timer-ends : (fields : List ℕ) → is_some (timer_of fields) ≡ true → Ends fields
unfolding timer_of
timer-ends fields r =
    let n = number time_most (first fields) in
    let m = number time_most (rest fields) in
    drop-ends (suc (field_length fields)) fields (number-ends time_most (rest fields) (and-true (is_some n) (is_some m) (two-read Timer n m ∙ r)).1)

admit-ends : (fields : List ℕ) → is_some (admit_of fields) ≡ true → Ends fields
unfolding admit_of
admit-ends fields r =
    let hashes = rest fields in
    let later = rest hashes in
    let s = number word_most (first fields) in
    let h = hash_byte (first hashes) in
    let p = hash_byte (first later) in
    let a = number time_most (rest later) in
    let x = (and-true (is_some s) (is_some h && (is_some p && is_some a)) (four-read admits s h p a ∙ r)).1 in
    let y = (and-true (is_some p) (is_some a) (and-true (is_some h) (is_some p && is_some a) x).1).1 in
    drop-ends (suc (field_length fields)) fields
    (drop-ends (suc (field_length hashes)) hashes
    (drop-ends (suc (field_length later)) later (number-ends time_most (rest later) y)))

abbrev ends_line : ℕ → Bool
ends_line b = is_digit b || eqb b 86

screen-ends : (line : List ℕ) → letter line ≡ 86 → is_some (screen_read line) ≡ true → ends_line (last_byte line) ≡ true
unfolding screen_read
screen-ends line e r =
    split (eqb (length line) 1)
    (λ l. split (eqb (field_length line) 1)
    (λ f. let b : get_or line 0 0 ≡ 86 = rw f at e in rw (eqb-true (length line) 1 l, b))
    (λ f. let b : 0 ≡ 86 = rw f at e in absurd (omega arith)))
    (λ l. true-not-false {b = false} (rw l at r) refl)

line-ends : (line : List ℕ) → is_some (parse line) ≡ true → ends_line (last_byte line) ≡ true
unfolding parse
line-ends line r =
    let behind : Ends (rest line) → ends_line (last_byte line) ≡ true = λ e. rw (drop-ends (suc (field_length line)) line e).1 in
    split (eqb (letter line) 78)
    (λ e. behind (fresh-ends (rest line) (rw e at r)))
    (λ a. split (eqb (letter line) 65)
    (λ e. behind (admit-ends (rest line) (rw (a, e) at r)))
    (λ b. split (eqb (letter line) 80)
    (λ e. behind (number-ends word_most (rest line) (slot-read Promote (rest line) ∙ rw (a, b, e) at r)))
    (λ c. split (eqb (letter line) 68)
    (λ e. behind (number-ends word_most (rest line) (slot-read Remove (rest line) ∙ rw (a, b, c, e) at r)))
    (λ d. split (eqb (letter line) 85)
    (λ e. behind (number-ends word_most (rest line) (slot-read Under (rest line) ∙ rw (a, b, c, d, e) at r)))
    (λ f. split (eqb (letter line) 86)
    (λ e. screen-ends line (eqb-true (letter line) 86 e) (rw (a, b, c, d, f, e) at r))
    (λ g. split (eqb (letter line) 84)
    (λ e. behind (timer-ends (rest line) (rw (a, b, c, d, f, g, e) at r)))
    (λ h. split (eqb (letter line) 82)
    (λ e. behind (number-ends time_most (rest line) (one-read Restart (number time_most (rest line)) ∙ rw (a, b, c, d, f, g, h, e) at r)))
    (λ e. true-not-false {b = false} (rw (a, b, c, d, f, g, h, e) at r) refl))))))))

last-unread : (line : List ℕ) (byte : ℕ) → last_byte line ≡ byte → ends_line byte ≡ false → is_some (parse line) ≡ false
last-unread line byte e d = split (is_some (parse line)) (λ r. true-not-false (line-ends line r) (rw e d)) (λ r. r)

empty-unread : (line : List ℕ) → length line ≡ 0 → is_some (parse line) ≡ false
unfolding field_length parse
empty-unread [] e = refl
empty-unread (b ∷ line) e = absurd (omega arith)

space-unread : (line : List ℕ) → get_or line 0 0 ≡ 32 → is_some (parse line) ≡ false
unfolding parse
space-unread line e = rw (no-first line e)

pub line-told : (line : List ℕ) → is_none (fault_of line) ≡ is_some (parse line)
unfolding fault_of
line-told line =
    split (eqb (length line) 0)
    (λ e. rw e (sym (empty-unread line (eqb-true (length line) 0 e))))
    (λ a. split (eqb (last_byte line) 13)
    (λ e. rw (a, e) (sym (last-unread line 13 (eqb-true (last_byte line) 13 e) refl)))
    (λ b. split (eqb (get_or line 0 0) 32)
    (λ e. rw (a, b, e) (sym (space-unread line (eqb-true (get_or line 0 0) 32 e))))
    (λ c. split (eqb (last_byte line) 32)
    (λ e. rw (a, b, c, e) (sym (last-unread line 32 (eqb-true (last_byte line) 32 e) refl)))
    (λ e. rw (a, b, c, e) (fields_told line)))))

pub begun-told : (b : Begun) → is_none (begun_fault b) ≡ is_some (line_begun b)
unfolding begun_fault line_begun
begun-told (so_far bytes) = line-told bytes
begun-told too_long = refl
