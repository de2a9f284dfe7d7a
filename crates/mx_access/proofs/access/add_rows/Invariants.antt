use Rattle.mx_access.specs.AllRows.{AreRows}
use Rattle.mx_access.proofs.access.add_rows.Given as goal

abbrev pub invariant-loop-p : goal.invariant-loop-p
invariant-loop-p l = AreRows l.session l.entries l.transcripts l.p l.rows.items
