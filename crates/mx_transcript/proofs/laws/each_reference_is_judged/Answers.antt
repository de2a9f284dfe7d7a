use Rattle.mx_transcript.proofs.LegalLaws.{each_reference_law}
use Rattle.mx_transcript.proofs.laws.each_reference_is_judged.Goals as goal

pub returns : goal.returns
returns c = each_reference_law
