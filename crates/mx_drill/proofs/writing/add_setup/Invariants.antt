use Rattle.std.proofs.Common.{◌≡◌, ◌++◌, map, take}
use Rattle.mx_script.specs.SessionTexts.{asked}
use Rattle.mx_drill.specs.Writing.{rows_text}
use Rattle.mx_drill.proofs.writing.add_setup.Given as goal

abbrev pub invariant-loop-request : goal.invariant-loop-request
invariant-loop-request l = l.out.items ≡ l.initial.out.items ++ rows_text (map asked (take l.request-index l.setup))
