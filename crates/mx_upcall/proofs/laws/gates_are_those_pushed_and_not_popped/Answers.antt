use Rattle.mx_upcall.proofs.HistoryLaws.{pushed_and_not_popped}
use Rattle.mx_upcall.proofs.laws.gates_are_those_pushed_and_not_popped.Goals as goal

pub returns : goal.returns
returns c = pushed_and_not_popped
