use Rattle.std.proofs.Common.{length}
use Rattle.mx_access.specs.Passing.{AreNotBefore, AreToldTo, IsAsked, IsAt}
use Rattle.mx_access.specs.Questions.{asked_of}
use Rattle.mx_access.proofs.passing.answer_turns.Given as goal

abbrev pub invariant-loop-k : goal.invariant-loop-k
invariant-loop-k g l = record {
  is_at : IsAt l.session l.entries l.at (g.S.PlainSupervisor.state l.supervisor) l.uses;
  onward : AreNotBefore l.turns l.k l.at;
  latest : IsAsked (g.S.PlainSupervisor.state l.supervisor) l.latest;
  told : AreToldTo l.session l.entries (asked_of (length l.entries) l.transcripts) l.turns l.k l.answers;
}
