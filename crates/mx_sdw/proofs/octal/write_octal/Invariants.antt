use Rattle.std.proofs.Common.{◌≡◌, ◌≤◌, length}
use Rattle.mx_sdw.specs.Octal.{octal}
use Rattle.mx_sdw.proofs.OctalLaws.{HasSpelled}
use Rattle.mx_sdw.proofs.octal.write_octal.Given as goal

-- the digits written end the number's spelling, and there is room for those of what is left
abbrev pub invariant-loop-left : goal.invariant-loop-left
invariant-loop-left l = record {
  has : HasSpelled (octal l.n) l.digits l.start l.left;
  length : length l.digits ≡ 22;
  start : l.start ≤ 21;
}

-- the number that is left to spell
abbrev pub decreases-loop-left : goal.decreases-loop-left
decreases-loop-left l = l.left
