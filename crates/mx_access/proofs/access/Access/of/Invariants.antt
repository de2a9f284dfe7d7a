use Rattle.mx_access.specs.AllRows.{IsOf}
use Rattle.mx_access.proofs.access.Access.of.Given as goal

-- the rows so far
abbrev pub invariant-loop-row : goal.invariant-loop-row
invariant-loop-row l = IsOf l.fn.rows.items l.row-iterator.rest.items l.access
