-- The deeds of the processes of a run, as lists.
use Rattle.std.specs.Prelude.{List, [], slice_index_or}
use Rattle.mx_reads.specs.Deeds.{Deed, Deeds, Enters, Stores, Loads, Refers, Misses}
use Rattle.mx_stores.specs.declared.deeds.Form.{Form}
use Rattle.mx_stores.specs.declared.deeds.Form.TheVariants as form

abbrev pub deed_of : Form → Deed
deed_of (form.Enters number) = Enters number
deed_of (form.Stores cell value point) = Stores cell value point
deed_of (form.Loads cell value writer stamp point) = Loads cell value writer stamp point
deed_of (form.Refers point) = Refers point
deed_of (form.Misses segno by) = Misses segno by

-- process 0, 1, .. and what each did; the others did nothing
abbrev pub deeds_of : List (List Deed) → Deeds
deeds_of parts p = slice_index_or parts p []
