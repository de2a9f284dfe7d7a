use Rattle.mx_reader.proofs.EventLaws.{exact_ends}
use Rattle.mx_reader.proofs.FrontLaws.{found, only}
use Rattle.mx_reader.proofs.events.read_end.Goals as goal

pub returns-clause-found : goal.returns-clause-found
returns-clause-found c = found exact_ends c.args.line.now _ c.cut_end.ensures

pub returns-clause-only : goal.returns-clause-only
returns-clause-only c = λ ends is. only exact_ends c.args.line.now _ c.cut_end.ensures ends is
