use Rattle.std.proofs.Common.{◌≡◌, ◌++◌, take}
use Rattle.mx_outcomes.specs.RowTexts.{rows_text}
use Rattle.mx_outcomes.proofs.rows.add_rows.Given as goal

abbrev pub invariant-loop-row : goal.invariant-loop-row
invariant-loop-row l = l.out.items ≡ l.initial.out.items ++ rows_text (take l.row-index l.rows)
