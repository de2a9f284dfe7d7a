-- Deeds that are reads.
use Rattle.std.specs.Prelude.{ℕ, Option, Some, None}
use Rattle.mx_reads.specs.Deeds.{Deed, Enters, Stores, Loads, Refers, Misses}
use Rattle.mx_reads.specs.ReadRule.{Reading}

-- the read that a deed of process p at this place is, if it is one
abbrev pub read_of : ℕ → ℕ → Deed → Option Reading
read_of p here (Enters number) = None
read_of p here (Stores cell value point) = None
read_of p here (Loads cell value writer stamp point) = Some (record { process = p; place = here; cell = cell; value = value; writer = writer; stamp = stamp; point = point })
read_of p here (Refers point) = None
read_of p here (Misses segno by) = None
