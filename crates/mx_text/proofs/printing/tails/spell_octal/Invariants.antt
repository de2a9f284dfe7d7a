use Rattle.std.proofs.Common.{◌≡◌, ◌≤◌, ◌<◌, ◌++◌, drop, length}
use Rattle.mx_sdw.proofs.OctalLaws.{HasSpelled}
use Rattle.mx_sdw.specs.Octal.{octal}
use Rattle.mx_text.proofs.printing.tails.spell_octal.Given as goal

-- the digits written end the number's spelling, and there is room for those of what is left
abbrev pub invariant-loop-left : goal.invariant-loop-left
invariant-loop-left l = record {
  has : HasSpelled (octal l.n ++ drop l.end l.initial.bytes) l.bytes l.start l.left;
  length : length l.bytes ≡ 3072;
  start : l.start ≤ 3071;
  before : l.start < l.end;
}

-- the number that is left to spell
abbrev pub decreases-loop-left : goal.decreases-loop-left
decreases-loop-left l = l.left
