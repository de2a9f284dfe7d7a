use Rattle.std.proofs.Common.{◌≡◌, true, false}
use Rattle.mx_points.specs.Fronts.{HasNoneAfterFullTo}
use Rattle.mx_points.proofs.FullLaws.{HasFull}
use Rattle.mx_points.proofs.full.first_after_full.Given as goal

-- the lines before keep the rule, and whether one of them found the journal full
abbrev pub invariant-loop-place : goal.invariant-loop-place
invariant-loop-place l = record {
  good : HasNoneAfterFullTo l.lines l.place;
  has : l.full ≡ true → HasFull l.lines l.place;
  none : l.full ≡ false → HasFull l.lines l.place → ⊥;
}
