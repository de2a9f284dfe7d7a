use Rattle.std.proofs.Common.{◌≡◌, ◌++◌}
use Rattle.office_tests.proofs.tests.beside.seated.Given as goal

-- the passes so far, and those to come
abbrev pub invariant-loop-pass : goal.invariant-loop-pass
invariant-loop-pass g l = record { all : l.fn.passes ≡ l.yielded ++ l.pass-iterator.rest.items }
