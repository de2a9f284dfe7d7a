use Rattle.std.proofs.Common.{length, map}
use Rattle.mx_closing.specs.Opening.{layout_of}
use Rattle.mx_proc.proofs.running.run_with.Given as goal

-- the names of the run are those of its session, of the entries of its setup, of its words, and of its auditors' accounts
abbrev pub ghosts-run_named-B-Ledger : goal.ghosts-run_named-B-Ledger
ghosts-run_named-B-Ledger g a = record { name = a.blank.name; parts = a.blank.parts }

abbrev pub ghosts-run_named-B-Naming : goal.ghosts-run_named-B-Naming
ghosts-run_named-B-Naming g a = record {
  table = a.prepared.words.shared.table_id;
  layout = layout_of a.session.now;
  start = length a.prepared.supervisor.journal;
}

abbrev pub ghosts-run_named-B-Sitting : goal.ghosts-run_named-B-Sitting
ghosts-run_named-B-Sitting g a = record { session = a.session.now; setup = a.prepared.supervisor.journal }

abbrev pub ghosts-run_named-B-Attending : goal.ghosts-run_named-B-Attending
ghosts-run_named-B-Attending g a = record { accounts = map g.A.Auditor.account a.auditors.now.items }
