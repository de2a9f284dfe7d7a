use Rattle.std.proofs.Common.{◌≡◌, length}
use Rattle.mx_reads.specs.Deeds.{Deeds}
use Rattle.mx_stores.specs.Rows.{AreRows}
use Rattle.mx_stores.specs.SightedTables.{IsReading}
use Rattle.mx_stores.specs.StoreLaws.{AreBelow}
use Rattle.mx_stores.proofs.deciding.first_wrong.Given as goal

-- each read before is chosen
abbrev pub invariant-loop-here : goal.invariant-loop-here
invariant-loop-here l = record {
  process : l.reader.process ≡ l.p;
  reading : (done : Deeds) → AreRows done l.rows → AreBelow (length l.rows.tables.items) done → done l.p ≡ l.deeds
      → IsReading done l.rows l.p l.here l.reader.sightings;
}
