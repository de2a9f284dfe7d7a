use Rattle.mx_transcript.proofs.LegalLaws.{each_reference_law}
use Rattle.mx_transcript.proofs.RevocationLaws.{told_law, denied_law, revocation_law}
use Rattle.mx_transcript.proofs.laws.what_was_taken_is_denied.Goals as goal

pub returns-clause-told : goal.returns-clause-told
returns-clause-told c = told_law each_reference_law

pub returns-clause-throughout : goal.returns-clause-throughout
returns-clause-throughout c = denied_law each_reference_law

pub returns-clause-revoked : goal.returns-clause-revoked
returns-clause-revoked c = revocation_law each_reference_law
