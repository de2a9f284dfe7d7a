-- Numbers within the bounds have 64 bits, so that their decimal digits give them back.
use Rattle.std.proofs.Common.{◌≡◌, ℕ, ◌<◌, ◌^◌, nat_le, nat_lt, Bool, true, arith}
use Rattle.std.proofs.lemmas.Bool.Decides.{nat_tests}
use Rattle.mx_spelling.specs.Spelling.{is_line_number}

abbrev pub is_number : ℕ → Bool
is_number n = nat_lt n (2 ^ 64)

pub at_most_number : (n most : ℕ) → most < 2 ^ 64 → nat_le n most ≡ true → is_number n ≡ true
at_most_number n most small e = grind (arith, nat_tests)

pub line_number : (n : ℕ) → is_line_number n ≡ true → is_number n ≡ true
line_number n e = grind (arith, nat_tests)
