use Rattle.std.proofs.Common.{◌≡◌, ◌==◌, ℕ, false, length}
use Rattle.mx_reads.specs.Deeds.{Deeds}
use Rattle.mx_stores.specs.Ends.{AreEndsOf}
use Rattle.mx_stores.specs.Tables.{IsTable}
use Rattle.mx_stores.proofs.EndLaws.{AreBroughtIn}
use Rattle.mx_stores.proofs.ends.bring_in.Given as goal

-- it is done for the stores before
abbrev pub invariant-loop-here : goal.invariant-loop-here
invariant-loop-here l = record {
  long : length l.ends ≡ length l.fn.ends;
  each : (done : Deeds) (storer u : ℕ) → (u == storer) ≡ false → IsTable (done storer) l.table → IsTable (done u) l.other
      → AreEndsOf done u storer l.table.stores.items l.fn.ends
      → AreBroughtIn done u storer l.here l.table.stores.items l.ends;
}
