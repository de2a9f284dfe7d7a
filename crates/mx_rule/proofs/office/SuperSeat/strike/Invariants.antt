use Rattle.mx_rule.proofs.office.SuperSeat.strike.Given as goal

abbrev pub ghosts-strike_for : goal.ghosts-strike_for
ghosts-strike_for g a = record { process = a.process; segno = a.segno; number = 0 }
