use Rattle.std.proofs.Common.{◌≡◌, ℕ, length}
use Rattle.mx_reads.specs.Deeds.{Deeds}
use Rattle.mx_stores.specs.Tables.{IsTable}
use Rattle.mx_stores.proofs.EndLaws.{AreFirstEnds}
use Rattle.mx_stores.proofs.ends.by_next.Given as goal

abbrev pub invariant-loop-here : goal.invariant-loop-here
invariant-loop-here l = record {
  long : length l.ends.items ≡ l.here;
  each : (done : Deeds) (storer : ℕ) → IsTable (done storer) l.table
      → AreFirstEnds done 0 storer l.here l.table.stores.items l.ends.items;
}
