use Rattle.std.proofs.Common.{◌≡◌, ℕ, length}
use Rattle.mx_reads.specs.Deeds.{Deeds}
use Rattle.mx_stores.specs.Groups.{AreFirsts}
use Rattle.mx_stores.specs.Tables.{IsTable}
use Rattle.mx_stores.proofs.FirstLaws.{AreFirstsTo}
use Rattle.mx_stores.proofs.firsts.bring_first.Given as goal

-- it is done for the cells before
abbrev pub invariant-loop-here : goal.invariant-loop-here
invariant-loop-here l = record {
  long : length l.firsts ≡ length l.fn.firsts;
  each : (done : Deeds) (u : ℕ) → IsTable (done u) l.other → AreFirsts done u l.cells.numbers.items l.fn.firsts
      → AreFirstsTo done u l.here l.cells.numbers.items l.firsts;
}
