use Rattle.mx_rule.proofs.office.SuperSeat.append.Given as goal

abbrev pub ghosts-append_for : goal.ghosts-append_for
ghosts-append_for g a = record { process = a.process; changes = a.changes.now; given = a.given.now }
