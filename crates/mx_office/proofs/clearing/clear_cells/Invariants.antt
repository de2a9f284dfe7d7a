use Rattle.std.proofs.Common.{◌≡◌}
use Rattle.mx_office.specs.Clearing.{cleared_cells}
use Rattle.mx_office.proofs.clearing.clear_cells.Given as goal

abbrev pub invariant-loop-i : goal.invariant-loop-i
invariant-loop-i g l = l.chief ≡ cleared_cells l.first l.i l.initial.chief
