-- Which store a read stands for, decided from what its process has sighted before.
use Rattle.std.specs.Prelude.{◌≡◌, ◌≢◌, ℕ, zero, suc, ◌==◌, ◌&&◌, not, nat_le, Bool, false, if◌then◌else◌, Option, Some, None, is_none, length, slice_get}
use Rattle.mx_reads.specs.Deeds.{CellUse, Deed, Deeds, Enters, Stores, Loads, Refers, Misses}
use Rattle.mx_reads.specs.ReadRule.{Reading}
use Rattle.mx_reads.specs.Sightings.{Source}
use Rattle.mx_stores.specs.Least.{is_by}
use Rattle.mx_stores.specs.Sighted.{floor, latest}
use Rattle.mx_stores.specs.Since.{first, is_same, stores_from}
use Rattle.mx_stores.specs.Until.{until}

abbrev pub or_next : Option ℕ → Option ℕ → Option ℕ
or_next None next = next
or_next (Some found) next = Some found

-- the first and the last number below a bound that pass a test
abbrev pub first_below : (ℕ → Bool) → ℕ → Option ℕ
first_below test zero = None
first_below test (suc n) = or_next (first_below test n) (if test n then Some n else None)

abbrev pub last_below : (ℕ → Bool) → ℕ → Option ℕ
last_below test zero = None
last_below test (suc n) = if test n then Some n else last_below test n

abbrev pub is_deed : (Deed → Bool) → Option Deed → Bool
is_deed test None = false
is_deed test (Some deed) = test deed

-- a store of this value in the cell with this stamp
abbrev pub stores_word : CellUse → ℕ → ℕ → Deed → Bool
stores_word cell value stamp (Enters number) = false
stores_word cell value stamp (Stores own word point) = is_same own cell && (word == value && point == stamp)
stores_word cell value stamp (Loads own word writer stored point) = false
stores_word cell value stamp (Refers point) = false
stores_word cell value stamp (Misses segno by) = false

-- a store of the read's writer, at this place, that the read can stand for
abbrev pub is_such : Deeds → ℕ → Reading → ℕ → Bool
is_such done count read place =
    is_deed (stores_word read.cell read.value read.stamp) (slice_get (done read.writer) place)
    && not (is_by (until done count read.writer place read.cell) read.point)

abbrev pub kept : (ℕ → Bool) → Option ℕ → Option ℕ
kept test None = None
kept test (Some place) = if test place then Some place else None

-- the process's last store in the cell before the read
abbrev pub own_choice : Deeds → ℕ → Reading → Option ℕ
own_choice done count read = kept (is_such done count read)
    (last_below (λ place. is_deed (stores_from read.cell 0) (slice_get (done read.writer) place)) read.place)

-- the first store of another process that will do, from where they are beyond what is sighted
abbrev pub other_choice : Deeds → ℕ → Source → Reading → Option ℕ
other_choice done count source read = first_below
    (λ place. nat_le (floor done source read.process read.cell read.writer read.place) place && is_such done count read place)
    (length (done read.writer))

-- the word can be nobody's
abbrev pub is_unwritten : Deeds → ℕ → Source → Reading → Bool
is_unwritten done count source read = (read.value == 0 && read.stamp == 0)
    && (is_none (latest done source read.process read.cell read.place)
    && not (is_by (first done count read.cell) read.point))

-- the place of the store that the read stands for (0 where it is nobody's), or none where the read is wrong
abbrev pub choice : Deeds → ℕ → Source → Reading → Option ℕ
choice done count source read =
    if read.writer == 0 then (if is_unwritten done count source read then Some 0 else None)
    else (if read.writer == read.process then own_choice done count read else other_choice done count source read)

-- the choice is the store at this place, if it is any process's
abbrev pub StandsFor : Option ℕ → ℕ → ℕ → Type 0
StandsFor None writer place = ⊥
StandsFor (Some chosen) writer place = writer ≢ 0 → chosen ≡ place
