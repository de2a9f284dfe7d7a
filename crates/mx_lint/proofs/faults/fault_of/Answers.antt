use Rattle.mx_lint.proofs.faults.fault_of.Goals as goal

pub returns-in-Some : goal.returns-in-Some
returns-in-Some c = let found = rw c.in-Some.is at c.in_ok-fault.ensures in found c.args.ends
