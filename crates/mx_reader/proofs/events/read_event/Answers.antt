use Rattle.mx_reader.proofs.EventLaws.{exact_events}
use Rattle.mx_reader.proofs.FrontLaws.{found, only}
use Rattle.mx_reader.proofs.events.read_event.Goals as goal

pub returns-clause-found : goal.returns-clause-found
returns-clause-found c = found exact_events c.args.line.now _ c.read_any.ensures

pub returns-clause-only : goal.returns-clause-only
returns-clause-only c = λ event is. only exact_events c.args.line.now _ c.read_any.ensures event is
