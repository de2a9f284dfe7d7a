use Rattle.mx_transcript.proofs.WrongMissLaws.{wrong_misses}
use Rattle.mx_transcript.proofs.WrongSourceLaws.{wrong_sources}
use Rattle.mx_transcript.proofs.laws.wrong_misses_are_refused.Goals as goal

pub returns-clause-misses : goal.returns-clause-misses
returns-clause-misses c = wrong_misses

pub returns-clause-sources : goal.returns-clause-sources
returns-clause-sources c = wrong_sources
