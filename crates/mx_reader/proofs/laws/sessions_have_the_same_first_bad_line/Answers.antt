use Rattle.mx_reader.proofs.FirstBadLaws.{of_sessions}
use Rattle.mx_reader.proofs.laws.sessions_have_the_same_first_bad_line.Goals as goal

pub returns : goal.returns
returns c = of_sessions
