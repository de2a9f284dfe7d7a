-- What a segment number stands for in a process: what its known segment table says, and nothing beyond its last number.
use Rattle.std.specs.Prelude.{ℕ, nat_lt, if◌then◌else◌}
use Rattle.mx_kst.specs.KnownSegments.{KnownSegments}
use Rattle.mx_kst.specs.declared.lots.Lot.{Lot}
use Rattle.mx_kst.specs.declared.lots.Lot.TheVariants.{Free}
use Rattle.mx_kst.specs.Lots.{lot_of}

abbrev pub stands_for : KnownSegments → ℕ → Lot
stands_for known segno = if nat_lt known.last segno then Free else lot_of known.lots segno
