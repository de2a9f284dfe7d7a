use Rattle.mx_transcript.proofs.Outcomes.{one_outcome_law}
use Rattle.mx_transcript.proofs.laws.one_outcome_law.Goals as goal

pub returns : goal.returns
returns c = one_outcome_law
