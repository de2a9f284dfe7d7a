use Rattle.std.proofs.Common.{◌≡◌, length}
use Rattle.mx_reads.specs.Deeds.{Deeds}
use Rattle.mx_stores.specs.Tables.{AreTables}
use Rattle.mx_stores.proofs.EndLaws.{AreFirstTables}
use Rattle.mx_stores.proofs.ends.first_ends.Given as goal

abbrev pub invariant-loop-storer : goal.invariant-loop-storer
invariant-loop-storer l = record {
  long : length l.ends.items ≡ l.storer;
  each : (done : Deeds) → AreTables done l.tables → AreFirstTables done 0 l.tables l.ends.items;
}
