use Rattle.mx_rule.proofs.office.SuperSeat.clear.Given as goal

abbrev pub ghosts-clear_for : goal.ghosts-clear_for
ghosts-clear_for g a = record { process = 0; segno = 0; number = a.cell }
