use Rattle.mx_reads.specs.Deeds.{Deeds}
use Rattle.mx_stores.specs.Groups.{AreFirsts}
use Rattle.mx_stores.specs.Tables.{AreTables}
use Rattle.mx_stores.proofs.firsts.firsts_of.Given as goal

-- by the processes before
abbrev pub invariant-loop-other : goal.invariant-loop-other
invariant-loop-other l = (done : Deeds) → AreTables done l.tables
    → AreFirsts done l.other l.cells.numbers.items l.firsts.items
