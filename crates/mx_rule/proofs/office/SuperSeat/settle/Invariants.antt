use Rattle.mx_rule.proofs.office.SuperSeat.settle.Given as goal

abbrev pub ghosts-settle_for : goal.ghosts-settle_for
ghosts-settle_for g a = record { process = a.process; segno = a.segno; number = a.number }
