use Rattle.std.proofs.Common.{◌≡◌, ◌≤◌}
use Rattle.mx_lint.specs.Lines.{without_lines}
use Rattle.mx_lint.specs.Places.{begun, place_behind}
use Rattle.mx_lint.proofs.linting.approach.Given as goal

-- so many lines were passed, and each began at most one process
abbrev pub invariant-loop-line : goal.invariant-loop-line
invariant-loop-line l = record {
  rest : l.rest ≡ without_lines l._line l.bytes;
  place : l.place ≡ place_behind l._line l.bytes;
  begun : begun l.place ≤ l._line;
}
