use Rattle.mx_state.proofs.WaitingLaws.{does_law}
use Rattle.mx_state.proofs.laws.a_process_does_what_its_entries_say.Goals as goal

pub returns : goal.returns
returns c = does_law
