use Rattle.std.proofs.Common.{◌≡◌, ◌+◌, ◌≤◌, ◌++◌, ℕ, Some, drop, length, map, vec_len, vec_capacity}
use Rattle.std.specs.List.{slice_get}
use Rattle.mx_process.specs.Processes.{ProcessValue}
use Rattle.mx_proc.specs.Seating.{IsAttended}
use Rattle.mx_proc.proofs.seating.attend.Given as goal

-- the auditors so far are given to the processes of their places, or are put behind these
abbrev pub invariant-loop-auditor : goal.invariant-loop-auditor
invariant-loop-auditor g l = record {
  all : l.fn.auditors.items ≡ l.yielded ++ l.auditor-iterator.rest.items;
  place : l.place ≡ length l.yielded;
  each : (i : ℕ) (v : ProcessValue) → slice_get l.row.items i ≡ Some v
      → IsAttended (map g.A.Auditor.account l.yielded) i v;
  len : vec_len l.row ≡ vec_len l.initial.row;
  beyond : map g.A.Auditor.account l.beyond.items ≡ drop (vec_len l.initial.row) (map g.A.Auditor.account l.yielded);
  space : vec_len l.beyond + length l.auditor-iterator.rest.items ≤ vec_capacity l.beyond;
}
