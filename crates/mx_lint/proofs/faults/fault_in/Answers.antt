use Rattle.mx_lint.proofs.faults.fault_in.Goals as goal

pub returns-in_default-read : goal.returns-in_default-read
returns-in_default-read c = c.unknown_word.ensures c.args.version c.args.line.now c.first_piece.ensures.first
