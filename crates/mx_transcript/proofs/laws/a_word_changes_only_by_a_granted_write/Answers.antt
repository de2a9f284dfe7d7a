use Rattle.mx_transcript.proofs.IntegrityLaws.{granted_stores_law, written_before_read_law}
use Rattle.mx_transcript.proofs.LegalLaws.{each_reference_law}
use Rattle.mx_transcript.proofs.laws.a_word_changes_only_by_a_granted_write.Goals as goal

pub returns-clause-stores : goal.returns-clause-stores
returns-clause-stores c = granted_stores_law each_reference_law

pub returns-clause-reads : goal.returns-clause-reads
returns-clause-reads c = written_before_read_law each_reference_law
