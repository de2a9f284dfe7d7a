use Rattle.std.proofs.Common.{◌≡◌, ◌≤◌, ◌-◌, map}
use Rattle.std.specs.List.{range_with_len}
use Rattle.mx_drill.specs.Drills.{drill_process}
use Rattle.mx_drill.proofs.sessions.principals.Given as goal

abbrev pub invariant-loop-p : goal.invariant-loop-p
invariant-loop-p l = record {
  made : l.principals ≡ map drill_process (range_with_len 1 (l.p - 1));
  least : 1 ≤ l.p;
  most : l.p ≤ 5;
}
