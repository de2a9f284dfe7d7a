use Rattle.std.proofs.Common.{◌≡◌, ◌≤◌, ◌-◌, ◌++◌}
use Rattle.std.specs.List.{flat_map, range_with_len}
use Rattle.mx_drill.specs.Drills.{segment_setup}
use Rattle.mx_drill.proofs.sessions.setup.Given as goal

abbrev pub invariant-loop-s : goal.invariant-loop-s
invariant-loop-s l = record {
  made : l.setup ≡ l.initial.setup ++ flat_map segment_setup (range_with_len 1 (l.s - 1));
  least : 1 ≤ l.s;
  most : l.s ≤ 5;
}
