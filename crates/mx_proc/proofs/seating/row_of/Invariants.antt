use Rattle.std.proofs.Common.{◌≡◌, ◌++◌, length}
use Rattle.mx_proc.specs.Rows.{AreFirst}
use Rattle.mx_proc.proofs.seating.row_of.Given as goal

-- the passes so far have their processes
abbrev pub invariant-loop-pass : goal.invariant-loop-pass
invariant-loop-pass g l = record {
  all : l.fn.passes ≡ l.yielded ++ l.pass-iterator.rest.items;
  many : length l.row.items ≡ length l.yielded;
  first : AreFirst l.row.items;
}
