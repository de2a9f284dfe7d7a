use Rattle.std.proofs.Common.{◌≡◌, ◌<◌, ◌^◌, ◌+◌, ◌-◌, drop}
use Rattle.mx_reader.specs.Numbers.{octal_more, digits_on}
use Rattle.mx_sdw.specs.Octal.{is_octal_digit}
use Rattle.mx_reader.proofs.numbers.octals_on.Given as goal

-- the digits that are left go on from what was read, and the number is as small as the digits read allow
abbrev pub invariant-loop-i : goal.invariant-loop-i
invariant-loop-i l = record {
  value : digits_on is_octal_digit octal_more (l.room - l.i) l.n (drop l.i l.text) ≡ digits_on is_octal_digit octal_more l.room l.first l.text;
  bound : l.n < 8 ^ (l.i + 1);
}
