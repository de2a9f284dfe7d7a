use Rattle.mx_transcript.proofs.LegalLaws.{legal_rings_law}
use Rattle.mx_transcript.proofs.RingLaws as rings
use Rattle.mx_transcript.proofs.laws.rings_law.Goals as goal

pub returns-clause-line : goal.returns-clause-line
returns-clause-line c = rings.line_rings_law

pub returns-clause-lines : goal.returns-clause-lines
returns-clause-lines c = rings.rings_law

pub returns-clause-run : goal.returns-clause-run
returns-clause-run c = legal_rings_law
