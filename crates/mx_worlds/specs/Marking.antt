-- Helpers: what an entry leaves of the columns of processes, of the pages and of the cells.
use Rattle.std.specs.Prelude.{◌≡◌, ℕ, ◌+◌, ◌<◌, ◌≤◌, IsTrue, List, Some, slice_get}
use Rattle.mx_sdw.specs.Descriptors.{Descriptor}
use Rattle.mx_core.specs.Append.{IsGoodChange}
use Rattle.mx_core.specs.Pages.{page_of}
use Rattle.mx_worlds.specs.Shows.{Columns, ShowsSeat}
use Rattle.mx_core.specs.World.{World}
use Rattle.mx_core.specs.declared.changes.Change.{Change}
use Rattle.mx_core.specs.declared.changes.Run.{Run}
use Rattle.mx_worlds.specs.declared.seats.Seat.{Seat}

abbrev pub AreGood : World → List Change → Type 0
AreGood w changes = (i : ℕ) (a : Change) → slice_get changes i ≡ Some a → IsGoodChange w a

abbrev pub AreWithin : List Run → Type 0
AreWithin given = (i : ℕ) (a : Run) → slice_get given i ≡ Some a → a.page + a.pages ≤ 1024

abbrev pub IsCleanPage : World → ℕ → Type 0
IsCleanPage w page = (cell : ℕ) → page_of cell ≡ page → IsTrue (w.clean cell)

-- a seat and one of its numbers
pub record IsInPlace (many seats : ℕ) (change : Change) : Type 0 where
  pub process : change.process < seats
  pub number : change.segno < many

abbrev pub AreInPlace : ℕ → ℕ → List Change → Type 0
AreInPlace many seats changes = (i : ℕ) (a : Change) → slice_get changes i ≡ Some a → IsInPlace many seats a

abbrev pub AllShow : ℕ → List Seat → (ℕ → Columns) → Type 0
AllShow many seats f = (p : ℕ) (s : Seat) → slice_get seats p ≡ Some s → ShowsSeat many s (f p)

-- another present table
abbrev pub with_present : (ℕ → Columns) → (ℕ → ℕ → Descriptor) → ℕ → Columns
with_present f table p = record (f p) { present = table p }
