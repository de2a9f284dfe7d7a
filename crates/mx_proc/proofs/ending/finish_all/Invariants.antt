use Rattle.std.proofs.Common.{◌≡◌, ◌+◌, ◌≤◌, ◌++◌, length, map, vec_len, vec_capacity}
use Rattle.mx_proc.specs.Leaving.{AreAudited, AreUncutAlone, AreWithin, HaveWorked, accounts_in, pass_in, steps_in}
use Rattle.mx_proc.proofs.ending.finish_all.Given as goal

-- the processes so far have handed out what they left, and there is room for the others
abbrev pub invariant-loop-process : goal.invariant-loop-process
invariant-loop-process g l = record {
  all : l.fn.row.items ≡ l.yielded ++ l.process-iterator.rest.items;
  transcripts : l.transcripts.items ≡ l.initial.transcripts.items ++ map steps_in l.yielded;
  passes : l.passes.items ≡ l.initial.passes.items ++ map pass_in l.yielded;
  auditors : map g.A.Auditor.account l.auditors.items ≡ accounts_in l.yielded;
  told : AreAudited g.B.Sitting.session g.B.Attending.accounts l.yielded;
  alone : AreUncutAlone g.B.Sitting.session g.B.Attending.accounts l.yielded;
  within : AreWithin g.B.Sitting.session l.yielded;
  worked : HaveWorked g.B.Sitting.session g.B.Sitting.setup l.yielded;
  steps : vec_len l.transcripts + length l.process-iterator.rest.items ≤ vec_capacity l.transcripts;
  views : vec_len l.passes + length l.process-iterator.rest.items ≤ vec_capacity l.passes;
  few : vec_len l.auditors ≤ length l.yielded;
  space : vec_capacity l.initial.auditors ≤ vec_capacity l.auditors;
}
