use Rattle.mx_closing.proofs.Closings.{closing_law}
use Rattle.mx_closing.proofs.laws.closing_law.Goals as goal

pub returns : goal.returns
returns c = closing_law
