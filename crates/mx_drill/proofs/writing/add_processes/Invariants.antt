use Rattle.std.proofs.Common.{◌≡◌, ◌++◌, drop}
use Rattle.mx_script.specs.SessionTexts.{process_rows}
use Rattle.mx_drill.specs.Writing.{rows_text}
use Rattle.mx_drill.proofs.writing.add_processes.Given as goal

abbrev pub invariant-loop-i : goal.invariant-loop-i
invariant-loop-i l =
    l.out.items ++ rows_text (process_rows (drop l.i l.entrants) (drop l.i l.scripts))
    ≡ l.initial.out.items ++ rows_text (process_rows l.entrants l.scripts)
