use Rattle.std.proofs.Common.{◌≡◌, ◌≤◌, ◌++◌, drop, take}
use Rattle.std.specs.List.{All}
use Rattle.mx_sdw.specs.Admissible.{IsAdmissible}
use Rattle.mx_state.specs.Renewing.{renewed}
use Rattle.mx_state.proofs.renewing.renew.Given as goal

-- all changes are those in front and those of the descriptors that are left
abbrev pub invariant-loop-i : goal.invariant-loop-i
invariant-loop-i l = record {
  few : l.count ≤ l.i;
  changes : renewed l.hier l.processes l.initial.held ≡ take l.count l.held ++ renewed l.hier l.processes (drop l.i l.held);
  admissible : All (λ change. IsAdmissible change.desc) (take l.count l.held);
}
