use Rattle.mx_request.proofs.AgainLaws.{one_request}
use Rattle.mx_request.proofs.laws.each_request_has_its_own_line.Goals as goal

pub returns-clause-own : goal.returns-clause-own
returns-clause-own c = one_request
