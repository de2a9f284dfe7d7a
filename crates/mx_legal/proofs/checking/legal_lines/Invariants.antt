use Rattle.std.proofs.Common.{length}
use Rattle.mx_legal.specs.Deciding.{AreGoodParts, IsUnnamedTo}
use Rattle.mx_legal.specs.Entries.{AreGoodTo}
use Rattle.mx_legal.proofs.checking.legal_lines.Given as goal

abbrev pub invariant-loop-p : goal.invariant-loop-p
invariant-loop-p g l = record {
  entries : AreGoodTo l.session l.journal (length l.journal);
  parts : AreGoodParts l.session l.journal l.transcripts l.p;
  named : IsUnnamedTo l.journal l.transcripts l.p l.unnamed;
}
