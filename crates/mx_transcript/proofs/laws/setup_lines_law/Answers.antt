use Rattle.mx_transcript.proofs.SetupLaws.{setup_lines_law}
use Rattle.mx_transcript.proofs.laws.setup_lines_law.Goals as goal

pub returns : goal.returns
returns c = setup_lines_law
