use Rattle.std.proofs.Common.{◌≡◌, ◌++◌, map, take}
use Rattle.mx_drill.specs.Writing.{rows_text}
use Rattle.mx_script.specs.declared.rows.Row.TheVariants.{Line as LineRow}
use Rattle.mx_drill.proofs.writing.add_script.Given as goal

abbrev pub invariant-loop-line : goal.invariant-loop-line
invariant-loop-line l = l.out.items ≡ l.initial.out.items ++ rows_text (map LineRow (take l.line-index l.script))
