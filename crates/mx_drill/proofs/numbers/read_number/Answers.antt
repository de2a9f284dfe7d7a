use Rattle.std.proofs.Common.{◌≡◌, ◌≤◌, true, length, IfSome, rules, arith}
use Rattle.std.specs.Char.{is_ascii_digit}
use Rattle.std.specs.List.{list_all}
use Rattle.std.proofs.lemmas.Str.Parse.{parse_digits}
use Rattle.mx_drill.specs.Numbers.{IsNumberOf}
use Rattle.mx_drill.proofs.NumberLaws.{own, number_parsed}
use Rattle.mx_drill.proofs.numbers.read_number.Goals as goal

parsed : (c : goal.After-ok) → IsNumberOf c.args.digits.now c.ok.result × IfSome c.ok.result (λ n. n ≤ 999999)
parsed c =
    let digits : list_all is_ascii_digit c.args.digits.now ≡ true = search rules in
    let few : length c.args.digits.now ≤ 6 = omega arith in
    number_parsed c.args.digits.now _ c.ok.result (parse_digits own 32 c.args.digits.now _ c.parse.ensures.value.0 digits)
    c.ok.ensures.value few digits

pub returns-then-are_digits-clause-value : goal.returns-then-are_digits-clause-value
returns-then-are_digits-clause-value c = (parsed c).0

pub returns-then-are_digits-clause-most : goal.returns-then-are_digits-clause-most
returns-then-are_digits-clause-most c = (parsed c).1
