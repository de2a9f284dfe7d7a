use Rattle.std.proofs.Common.{◌≡◌, ◌++◌}
use Rattle.mx_outcomes.specs.Words.{outcomes_of}
use Rattle.mx_outcomes.proofs.words.add_outcomes.Given as goal

abbrev pub invariant-loop-number : goal.invariant-loop-number
invariant-loop-number l = l.outcomes.items ++ outcomes_of l.journal l.number-iterator ≡ l.initial.outcomes.items ++ outcomes_of l.journal l.transcript
