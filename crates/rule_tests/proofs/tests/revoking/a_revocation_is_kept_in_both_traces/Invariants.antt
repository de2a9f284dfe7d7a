use Rattle.mx_rule.specs.Seats.{super_of}
use Rattle.rule_tests.proofs.tests.revoking.a_revocation_is_kept_in_both_traces.Given as goal

abbrev pub ghosts-run-B-Ledger : goal.ghosts-run-B-Ledger
ghosts-run-B-Ledger g a = record { name = a.blank.name; parts = a.blank.parts }

abbrev pub ghosts-run-B-Naming : goal.ghosts-run-B-Naming
ghosts-run-B-Naming g a = record {
  table = a.shared.now.table_id;
  layout = a.shared.now.key.layout;
  start = (super_of a.chief.seat.me.0).start;
}
