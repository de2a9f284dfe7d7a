use Rattle.mx_transcript.proofs.GoingOn.{line_law}
use Rattle.mx_transcript.proofs.laws.line_law.Goals as goal

pub returns : goal.returns
returns c = line_law
