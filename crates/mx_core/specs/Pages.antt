-- Pages: 64 cells each, which descriptors lie in, which entries give out, and which are used again.
use Rattle.std.specs.Prelude.{ℕ, suc, zero, ◌+◌, ◌*◌, ◌/◌, nat_le, nat_lt, Bool, false, ◌&&◌, ◌||◌, List, [], ◌∷◌}
use Rattle.mx_sdw.specs.Descriptors.{Descriptor}
use Rattle.mx_reads.specs.Deeds.{CellUse}
use Rattle.mx_core.specs.Put.{pick}
use Rattle.mx_core.specs.declared.changes.Change.{Change}
use Rattle.mx_core.specs.declared.changes.Run.{Run}

abbrev pub page_of : ℕ → ℕ
page_of cell = cell / 64

-- the cell of a word of a segment
abbrev pub cell_at : Descriptor → ℕ → ℕ
cell_at d word = 64 * d.page + word

-- a descriptor covers the pages in which its cells lie
abbrev pub covers : Descriptor → ℕ → Bool
covers d page = nat_le d.page page && nat_lt (64 * page) (64 * d.page + d.bound)

-- one of the runs has the page
abbrev pub gives : List Run → ℕ → Bool
gives [] page = false
gives (run ∷ rest) page = (nat_le run.page page && nat_lt page (run.page + run.pages)) || gives rest page

-- one of the descriptors put in covers the page
abbrev pub covered_anew : List Change → ℕ → Bool
covered_anew [] page = false
covered_anew (change ∷ rest) page = covers change.desc page || covered_anew rest page

-- the use of a page at a point: the last entry after the opening, up to the point, that gave it out, and 0 where none
-- did
abbrev pub use_at : ℕ → (ℕ → ℕ → Bool) → ℕ → ℕ → ℕ
use_at start given page zero = 0
use_at start given page (suc q) = pick (nat_le start q && given (suc q) page) (suc q) (use_at start given page q)

-- a cell in its use at a point
abbrev pub cell_use : ℕ → (ℕ → ℕ → Bool) → ℕ → ℕ → CellUse
cell_use start given cell q = record { cell = cell; since = use_at start given (page_of cell) q }
