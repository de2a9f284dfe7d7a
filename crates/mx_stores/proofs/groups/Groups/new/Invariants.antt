use Rattle.std.proofs.Common.{List}
use Rattle.mx_reads.specs.Deeds.{Deed}
use Rattle.mx_stores.specs.Tables.{IsTable}
use Rattle.mx_stores.proofs.Grouping.{IsGrouped}
use Rattle.mx_stores.proofs.groups.Groups.new.Given as goal

-- the stores before are grouped
abbrev pub invariant-loop-here : goal.invariant-loop-here
invariant-loop-here l = (deeds : List Deed) → IsTable deeds l.table
    → IsGrouped l.table.stores.items l.here l.numbers.items l.begins.items l.last
