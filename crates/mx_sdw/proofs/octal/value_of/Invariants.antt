use Rattle.std.proofs.Common.{◌≡◌, ◌<◌, ◌^◌, drop}
use Rattle.std.specs.List.{list_all}
use Rattle.mx_sdw.specs.Octal.{is_octal_digit, value_after, octal_value}
use Rattle.mx_sdw.proofs.octal.value_of.Given as goal

-- what was read so far are digits, and with those that are left they give the number, which is as small as the digits read allow
abbrev pub invariant-loop-c : goal.invariant-loop-c
invariant-loop-c l = record {
  value : value_after l.n (drop l.c-index l.text) ≡ octal_value l.text;
  small : l.n < 8 ^ l.c-index;
  digits : list_all is_octal_digit (drop l.c-index l.text) ≡ list_all is_octal_digit l.text;
}
