use Rattle.mx_transcript.proofs.RingLaws.{full_law}
use Rattle.mx_transcript.proofs.laws.full_law.Goals as goal

pub returns : goal.returns
returns c = full_law
