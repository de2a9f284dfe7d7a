use Rattle.std.proofs.Common.{◌≡◌, ◌≤◌, ◌++◌, length, map, vec_len, vec_capacity}
use Rattle.mx_proc.specs.Leaving.{AreAudited, accounts_in}
use Rattle.mx_proc.proofs.ending.dismiss_all.Given as goal

-- the processes so far have handed back their auditors
abbrev pub invariant-loop-process : goal.invariant-loop-process
invariant-loop-process g l = record {
  all : l.fn.row.items ≡ l.yielded ++ l.process-iterator.rest.items;
  auditors : map g.A.Auditor.account l.auditors.items ≡ accounts_in l.yielded;
  told : AreAudited g.B.Sitting.session g.B.Attending.accounts l.yielded;
  few : vec_len l.auditors ≤ length l.yielded;
  space : vec_capacity l.initial.auditors ≤ vec_capacity l.auditors;
}
