use Rattle.std.proofs.Common.{◌≡◌, ◌<◌, ◌^◌, ◌+◌, ◌-◌, drop}
use Rattle.mx_reader.specs.Numbers.{decimal_more, digits_on}
use Rattle.mx_request.specs.Decimals.{is_digit}
use Rattle.mx_reader.proofs.numbers.decimals_on.Given as goal

-- the digits that are left go on from what was read, and the number is as small as the digits read allow
abbrev pub invariant-loop-i : goal.invariant-loop-i
invariant-loop-i l = record {
  value : digits_on is_digit decimal_more (l.room - l.i) l.n (drop l.i l.text) ≡ digits_on is_digit decimal_more l.room l.first l.text;
  bound : l.n < 10 ^ (l.i + 1);
}
