-- From when on a store is superseded.
use Rattle.std.specs.Prelude.{ℕ, suc, ◌==◌, if◌then◌else◌, List, [], ◌∷◌, drop, Option, Some, None}
use Rattle.mx_reads.specs.Deeds.{CellUse, Deed, Deeds}
use Rattle.mx_stores.specs.Least.{least, least_of}
use Rattle.mx_stores.specs.Since.{least_entry, least_since, since, stores_from}

-- the `since` of the first store in the cell among a process's last deeds
abbrev pub replaced : CellUse → List Deed → Option ℕ
replaced cell [] = None
replaced cell (deed ∷ deeds) = if stores_from cell 0 deed then least_entry deeds else replaced cell deeds

-- the least `since` of a process's stores in the cell at whose points a store of another with this `since` was known
abbrev pub overwritten : CellUse → Option ℕ → List Deed → Option ℕ
overwritten cell None deeds = None
overwritten cell (Some from) deeds = least_since cell from deeds

-- the least number at which a store of the process `storer` at this place in the cell is superseded: by its next store
-- there, or by a store of another process below the count
abbrev pub until : Deeds → ℕ → ℕ → ℕ → CellUse → Option ℕ
until done count storer place cell = least (replaced cell (drop (suc place) (done storer)))
    (least_of (λ other. if other == storer then None else overwritten cell (since (done storer) place) (done other)) count)
