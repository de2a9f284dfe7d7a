-- Whose store a read word is: nobody's, where the writer is 0, and else that of the writer at the stamp.
use Rattle.std.specs.Prelude.{ℕ, ◌==◌, Option, Some, None, if◌then◌else◌}
use Rattle.mx_core.specs.declared.elements.Outcome.{Outcome}
use Rattle.mx_core.specs.declared.elements.Outcome.TheVariants as outcome
use Rattle.mx_judging.specs.declared.sources.StoredBy.{StoredBy}

abbrev pub stored_by : ℕ → ℕ → StoredBy
stored_by process point = record { process = process; point = point }

abbrev pub store_of : ℕ → ℕ → Option StoredBy
store_of writer stamp = if writer == 0 then None else Some (stored_by writer stamp)

-- what a reference has read stands for this store
abbrev pub source : Outcome → Option StoredBy
source (outcome.Read value writer stamp) = store_of writer stamp
source (outcome.Written value) = None
source (outcome.Entered ring) = None
source (outcome.Denied denial) = None
