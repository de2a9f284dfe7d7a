-- Laws on the number of a drill.
use Rattle.std.proofs.Common.{◌≡◌, ℕ, ◌<◌, ◌≤◌, ◌^◌, true, List, length, Option, None, Some, Result, Ok, Err, IfSome, arith, rules}
use Rattle.std.specs.Char.{is_ascii_digit}
use Rattle.std.specs.List.{list_all}
use Rattle.std.specs.Result.{OkIff, result_ok}
use Rattle.std.specs.Str.Parse.{digits_value}
use Rattle.std.proofs.lemmas.Str.Parse.{IsNumeralModel, numerals_by_value, digits_value_short}
use Rattle.mx_drill.specs.Numbers.{IsNumber, IsNumberOf}

pub own : IsNumeralModel (λ ds. list_all is_ascii_digit ds ≡ true) (digits_value 10)
own = numerals_by_value _ (search rules)

-- what was parsed of at most six digits
pub number_parsed : {E : Type 0} (bs : List ℕ) (r : Result ℕ E) (told : Option ℕ)
    → OkIff r ((0 < length bs) × (digits_value 10 bs < 2 ^ 32)) (digits_value 10 bs)
    → told ≡ result_ok r → length bs ≤ 6 → list_all is_ascii_digit bs ≡ true
    → IsNumberOf bs told × IfSome told (λ n. n ≤ 999999)
number_parsed bs (Ok x) None parsed same few digits = cc
number_parsed bs (Ok x) (Some n) parsed same few digits =
    let small : digits_value 10 bs < 10 ^ 6 = digits_value_short own bs 6 digits few in
    let is : digits_value 10 bs ≡ n = cc in
    (record { some = omega (arith, parsed.0.0); few = few; decimal = digits; value = is }, omega arith)
number_parsed bs (Err e) (Some n) parsed same few digits = cc
number_parsed bs (Err e) None parsed same few digits =
    let small : digits_value 10 bs < 10 ^ 6 = digits_value_short own bs 6 digits few in
    (λ number is. let some : 1 ≤ length bs = is.some in parsed (omega arith, omega arith), tt)
