use Rattle.mx_rule.specs.Seats.{super_of}
use Rattle.one_reference.proofs.granted.Given as goal

abbrev pub ghosts-run-B-Ledger : goal.ghosts-run-B-Ledger
ghosts-run-B-Ledger a = record { name = a.blank.name; parts = a.blank.parts }

abbrev pub ghosts-run-B-Naming : goal.ghosts-run-B-Naming
ghosts-run-B-Naming a = record {
  table = a.shared.now.table_id;
  layout = a.shared.now.key.layout;
  start = (super_of a.chief.seat.me.0).start;
}
