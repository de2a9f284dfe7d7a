use Rattle.std.proofs.Common.{◌≡◌, ◌++◌, replicate}
use Rattle.mx_outcomes.proofs.rows.add_blanks.Given as goal

abbrev pub invariant-loop : goal.invariant-loop
invariant-loop l = l.out.items ≡ l.initial.out.items ++ replicate l.counter 32
