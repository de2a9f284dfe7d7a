use Rattle.std.proofs.Common.{◌≡◌, ◌++◌, map, take}
use Rattle.mx_judging.specs.Judging.{AreAccesses}
use Rattle.mx_judging.specs.References.{reference_of}
use Rattle.mx_judging.proofs.judging.add_all_judged.Given as goal

-- the journal is the same, and each reference so far has its access
abbrev pub invariant-loop-process : goal.invariant-loop-process
invariant-loop-process l = record {
  session : l.replay.session ≡ l.initial.replay.session;
  journal : l.replay.journal ≡ l.initial.replay.journal;
  accesses : AreAccesses l.initial.replay.session l.initial.replay.journal l.judged.items;
  references : map reference_of l.judged.items ≡ map reference_of l.initial.judged.items ++ take l.process-index l.references;
}
