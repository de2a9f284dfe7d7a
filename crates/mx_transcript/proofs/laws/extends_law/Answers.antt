use Rattle.mx_transcript.proofs.Extending.{extends_law}
use Rattle.mx_transcript.proofs.Growing.{grown_law}
use Rattle.mx_transcript.proofs.laws.extends_law.Goals as goal

pub returns-clause-kept : goal.returns-clause-kept
returns-clause-kept c = extends_law

pub returns-clause-grown : goal.returns-clause-grown
returns-clause-grown c = grown_law
