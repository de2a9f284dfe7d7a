-- The use of a cell at a point: pages are given out again, and a cell is used anew from the entry on that gave out its
-- page last.
use Rattle.std.specs.Prelude.{ℕ, zero, suc, Bool, false, List, take}
use Rattle.mx_core.specs.Pages.{cell_use}
use Rattle.mx_reads.specs.Deeds.{CellUse}
use Rattle.mx_script.specs.Sessions.{Outline}
use Rattle.mx_state.specs.Given.{gives}
use Rattle.mx_state.specs.History.{replay}
use Rattle.mx_state.specs.declared.journal.Entry as journaled
use Rattle.mx_transcript.specs.Opened.{opening_of}

-- whether the entry of this number gave the page out: it was free before, and is not after
abbrev pub given_by : Outline → List journaled.Entry → ℕ → ℕ → Bool
given_by session journal zero page = false
given_by session journal (suc number) page =
    gives (replay (opening_of session) (take number journal)) (replay (opening_of session) (take (suc number) journal)) page

-- a cell in its use at a point: since the last entry up to it that gave out the cell's page, and 0 where none did
abbrev pub use_of : Outline → List journaled.Entry → ℕ → ℕ → CellUse
use_of session journal = cell_use 0 (given_by session journal)
