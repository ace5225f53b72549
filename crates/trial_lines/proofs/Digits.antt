-- The digits of a number are those that std writes of it.
use mathlib.Core.Path.{◌≡◌, sym, ◌∙◌}
use Prim.Native.Nat.{ℕ, ◌%◌, ◌^◌, ◌<◌}
use native.Mathlib.Omega.{arith}
use borrow.Author.Tests.{lt-ltb, le-ltb}
use Rattle.std.specs.Fmt.{decimal}
use Rattle.std.proofs.lemmas.Fmt.{AppendsLastDigit, decimal_from_appends, length-decimal-le}
use Rattle.trial_lines.specs.Writing.{digits_in, digits}

digits-append : AppendsLastDigit digits_in
unfolding digits_in
digits-append = record {
  one = λ k n h. let e : n % 10 ≡ n = omega arith in rw (lt-ltb n 10 h, e);
  more = λ k n h. rw (le-ltb n 10 h);
}

pub decimal_digits : (n : ℕ) → n < 2 ^ 64 → decimal n ≡ digits n
unfolding digits
decimal_digits n h = sym (decimal_from_appends digits_in digits-append 20 n h (length-decimal-le 20 n (omega arith) (omega arith) h))

-- a number of 32 bits needs no more than 10 of them
pub field_digits : (n : ℕ) → n < 2 ^ 32 → digits n ≡ digits_in 10 n
field_digits n h =
    let w : n < 2 ^ 64 = omega arith in
    sym (decimal_digits n w) ∙ sym (decimal_from_appends digits_in digits-append 10 n w (length-decimal-le 10 n (omega arith) (omega arith) w))
