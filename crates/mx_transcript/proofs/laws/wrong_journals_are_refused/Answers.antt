use Rattle.mx_transcript.proofs.WrongJournalLaws.{wrong_journals, wrong_transcripts}
use Rattle.mx_transcript.proofs.laws.wrong_journals_are_refused.Goals as goal

pub returns-clause-journals : goal.returns-clause-journals
returns-clause-journals c = wrong_journals

pub returns-clause-transcripts : goal.returns-clause-transcripts
returns-clause-transcripts c = wrong_transcripts
