use Rattle.std.proofs.Common.{◌≡◌, ◌≤◌, ◌-◌, ◌++◌, map}
use Rattle.std.specs.List.{range_with_len}
use Rattle.mx_drill.specs.Drills.{initiation, rounds}
use Rattle.mx_drill.proofs.rounds.script.Given as goal

abbrev pub invariant-loop-s : goal.invariant-loop-s
invariant-loop-s l = record {
  made : l.script ≡ map initiation (range_with_len 1 (l.s - 1));
  least : 1 ≤ l.s;
  most : l.s ≤ 5;
}

abbrev pub invariant-loop-i : goal.invariant-loop-i
invariant-loop-i l = record {
  made : l.script ≡ l.initial.script ++ rounds l.number l.p l.i;
  most : l.i ≤ 256;
}
