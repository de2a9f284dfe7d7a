use Rattle.std.proofs.Common.{◌≡◌, ◌<◌, ◌-◌, get_or}
use Rattle.mx_lint.proofs.faults.wide_space.Given as goal

-- the byte before
abbrev pub invariant-loop-place : goal.invariant-loop-place
invariant-loop-place l = record {
  none : l.place ≡ 0 → l.last ≡ 0;
  before : 0 < l.place → l.last ≡ get_or l.line (l.place - 1) 0;
}
