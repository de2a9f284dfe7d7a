use Rattle.std.proofs.Common.{◌≡◌, ◌+◌, ◌++◌, drop}
use Rattle.mx_judging.specs.References.{references_from, references_in}
use Rattle.mx_judging.proofs.judging.add_all_references.Given as goal

-- those of the processes so far, and behind them those of the others
abbrev pub invariant-loop-i : goal.invariant-loop-i
invariant-loop-i l =
    l.found.items ++ references_from (l.i + 1) (drop (l.i + 1) l.transcripts) ≡ l.initial.found.items ++ references_in l.transcripts
