use Rattle.mx_drill.specs.Counting.{HasCounted}
use Rattle.mx_drill.proofs.summaries.Counts.add_part.Given as goal

abbrev pub invariant-loop-number : goal.invariant-loop-number
invariant-loop-number l = HasCounted l.initial.self l.transcript l.number-iterator l.self
