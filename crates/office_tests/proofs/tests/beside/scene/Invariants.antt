use Rattle.std.proofs.Common.{[], length}
use Rattle.mx_closing.specs.Opening.{layout_of}
use Rattle.office_tests.proofs.tests.beside.scene.Given as goal

-- the names of the run are those of its session, of the entries of its setup, and of its words
abbrev pub ghosts-run-B-Ledger : goal.ghosts-run-B-Ledger
ghosts-run-B-Ledger g a = record { name = a.blank.name; parts = a.blank.parts }

abbrev pub ghosts-run-B-Naming : goal.ghosts-run-B-Naming
ghosts-run-B-Naming g a = record {
  table = a.prepared.words.shared.table_id;
  layout = layout_of a.session.now;
  start = length a.prepared.supervisor.journal;
}

abbrev pub ghosts-run-B-Sitting : goal.ghosts-run-B-Sitting
ghosts-run-B-Sitting g a = record { session = a.session.now; setup = a.prepared.supervisor.journal }

-- nobody has an auditor
abbrev pub ghosts-run-B-Attending : goal.ghosts-run-B-Attending
ghosts-run-B-Attending g a = record { accounts = [] }
