use Rattle.mx_rule.proofs.office.SuperSeat.acknowledge.Given as goal

abbrev pub ghosts-acknowledge_for : goal.ghosts-acknowledge_for
ghosts-acknowledge_for g a = record { process = a.process; segno = 0; number = 0 }
