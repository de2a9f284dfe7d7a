-- What a deed sights, of whichever cell.
use Rattle.std.specs.Prelude.{if◌then◌else◌, Option, Some, None}
use Rattle.mx_reads.specs.Deeds.{CellUse}
use Rattle.mx_stores.specs.Sighted.{Sighted}
use Rattle.mx_stores.specs.Since.{is_same}
use Rattle.mx_stores.specs.declared.deeds.Sight.{Sight}

-- the sighting, of its own cell
abbrev pub sighted_of : CellUse → Option Sight → Option Sighted
sighted_of cell None = None
sighted_of cell (Some sight) = if is_same sight.cell cell then Some sight.sighted else None
