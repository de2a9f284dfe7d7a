-- From when on a store is known, and from when on any store in a cell is.
use Rattle.std.specs.Prelude.{ℕ, suc, ◌==◌, ◌&&◌, nat_le, Bool, false, if◌then◌else◌, List, [], ◌∷◌, drop, Option, Some, None}
use Rattle.mx_reads.specs.Deeds.{CellUse, Deed, Deeds, Enters, Stores, Loads, Refers, Misses}
use Rattle.mx_stores.specs.Least.{least, least_of}

abbrev pub entry_of : Deed → Option ℕ
entry_of (Enters number) = Some number
entry_of (Stores cell value point) = None
entry_of (Loads cell value writer stamp point) = None
entry_of (Refers point) = None
entry_of (Misses segno by) = None

-- the least number of an entry among these deeds
abbrev pub least_entry : List Deed → Option ℕ
least_entry [] = None
least_entry (deed ∷ deeds) = least (entry_of deed) (least_entry deeds)

-- the least number of an entry of the process after this place: a store there is known from then on
abbrev pub since : List Deed → ℕ → Option ℕ
since deeds place = least_entry (drop (suc place) deeds)

abbrev pub is_same : CellUse → CellUse → Bool
is_same a b = (a.cell == b.cell) && (a.since == b.since)

-- a store in the cell with a point from this one on
abbrev pub stores_from : CellUse → ℕ → Deed → Bool
stores_from cell from (Enters number) = false
stores_from cell from (Stores own value point) = is_same own cell && nat_le from point
stores_from cell from (Loads own value writer stamp point) = false
stores_from cell from (Refers point) = false
stores_from cell from (Misses segno by) = false

-- the least `since` of a process's stores in a cell with points from this one on
abbrev pub least_since : CellUse → ℕ → List Deed → Option ℕ
least_since cell from [] = None
least_since cell from (deed ∷ deeds) =
    least (if stores_from cell from deed then least_entry deeds else None) (least_since cell from deeds)

-- the least `since` of all stores in a cell, of the processes below the count
abbrev pub first : Deeds → ℕ → CellUse → Option ℕ
first done count cell = least_of (λ storer. least_since cell 0 (done storer)) count
