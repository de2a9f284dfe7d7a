use Rattle.std.proofs.Common.{◌≡◌, ◌≤◌, vec_capacity}
use Rattle.mx_sup.specs.Setups.{HasSetUp}
use Rattle.mx_sup.proofs.setups.enter_setup.Given as goal

-- so many requests were entered, and there is room for the others
abbrev pub invariant-loop-i : goal.invariant-loop-i
invariant-loop-i l = record {
  entered : HasSetUp l.session l.i l.state l.journal.items;
  room : vec_capacity l.journal ≡ l.room;
  within : l.count ≤ l.room;
}
