use Rattle.mx_sup.proofs.SetupLaws.{opened_kept, opened}
use Rattle.mx_sup.proofs.supervisors.Supervisor.new.Goals as goal

pub invariant_of-supervisor : goal.invariant_of-supervisor
invariant_of-supervisor c = opened_kept _ _ _ c.scripts-scripts.ensures.session c.in_ok-journal.ensures

pub returns : goal.returns
returns c = opened _ _ _ _ c.in_ok-journal.ensures (rw c.deref.ensures.value at c.in_ok-part.ensures)
