use Rattle.std.proofs.Common.{◌≡◌, ◌+◌, ◌++◌, [], drop}
use Rattle.mx_sup.specs.Setups.{setup_steps}
use Rattle.mx_sup.proofs.setups.setup_part.Given as goal

-- what was recorded and the lines that are left
abbrev pub invariant-loop-i : goal.invariant-loop-i
invariant-loop-i l = record {
  whole : setup_steps l.first 1 l.journal l.session.setup
      ≡ l.part.steps ++ setup_steps (l.first + l.i) (1 + l.i) (drop l.i l.journal) (drop l.i l.session.setup);
  events : l.part.events ≡ [];
}
