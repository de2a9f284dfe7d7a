use Rattle.std.proofs.Common.{sym, subst}
use Rattle.mx_transcript.specs.Courses.{Course}
use Rattle.mx_line.specs.AtWork.{StandsAt}
use Rattle.mx_line.proofs.at_work.LineAtWork.missed.Goals as goal

pub returns-clause-taken : goal.returns-clause-taken
returns-clause-taken c = λ g l setting segno by course later stands is.
    subst (λ (course : Course). StandsAt g l course c.begin.result) (sym is.leads) (c.begin.ensures.stands g l)
