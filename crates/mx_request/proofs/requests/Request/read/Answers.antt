use Rattle.mx_request.proofs.AgainLaws.{line_found, no_line}
use Rattle.mx_request.proofs.requests.Request.read.Goals as goal

pub returns-clause-found : goal.returns-clause-found
returns-clause-found c = λ request e. line_found _ _ request c.read_line.ensures e

pub returns-clause-none : goal.returns-clause-none
returns-clause-none c = λ e request fits same. no_line _ _ request c.read_line.ensures e fits same
