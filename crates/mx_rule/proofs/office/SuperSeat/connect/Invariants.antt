use Rattle.mx_rule.proofs.office.SuperSeat.connect.Given as goal

abbrev pub ghosts-connect_for : goal.ghosts-connect_for
ghosts-connect_for g a = record { process = a.process; segno = 0; number = 0 }
