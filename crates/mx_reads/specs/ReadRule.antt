-- The read rule: which store a read word stands for. It is said once, for whatever is known: in a run by entries, in
-- the core machine by how many deeds of each process are.
use Rattle.std.specs.Prelude.{◌≡◌, ◌≢◌, ℕ, ◌<◌, Some, slice_get}
use Rattle.mx_reads.specs.Sightings.{Source, HasStored, HasSighted, IsBeyond}
use Rattle.mx_reads.specs.Deeds.{CellUse, Deeds, Loads}

-- `is_known storer place q` says whether the deed of this process at this place is known at point q
abbrev pub Known : Type 1
Known = ℕ → ℕ → ℕ → Type 0

-- how many deeds of a process are known at a point: its first ones
abbrev pub Fronts : Type 0
Fronts = ℕ → ℕ → ℕ

abbrev pub known_by : Fronts → Known
known_by front storer place q = place < front storer q

-- a read: of which process, at which place of its deeds, of which cell; the value that it gave, who stored it, and that
-- store's stamp; and at which point
pub record Reading : Type 0 where
  pub process : ℕ
  pub place : ℕ
  pub cell : CellUse
  pub value : ℕ
  pub writer : ℕ
  pub stamp : ℕ
  pub point : ℕ

abbrev pub HasRead : Deeds → Reading → Type 0
HasRead done read =
    slice_get (done read.process) read.place ≡ Some (Loads read.cell read.value read.writer read.stamp read.point)

-- A store in the cell is known that came after this one: a later one of the same process, or one of another process, at
-- whose point this one was known.
pub record IsSuperseded (done : Deeds) (is_known : Known) (storer place : ℕ) (cell : CellUse) (q : ℕ) : Type 0 where
  pub other : ℕ
  pub at : ℕ
  pub value : ℕ
  pub point : ℕ
  pub stored : HasStored done other at cell value point
  pub known : is_known other at q
  pub after : other ≡ storer → place < at
  pub knew : other ≢ storer → is_known storer place point

-- a store of its writer, at this place, that the read can stand for
pub record IsSuch (done : Deeds) (is_known : Known) (read : Reading) (place : ℕ) : Type 0 where
  pub stored : HasStored done read.writer place read.cell read.value read.stamp
  pub current : IsSuperseded done is_known read.writer place read.cell read.point → ⊥

-- nobody's store: zero with stamp 0, no sighting of the cell by the process before, and no store there known
pub record IsUnwritten (done : Deeds) (is_known : Known) (source : Source) (read : Reading) : Type 0 where
  pub zero_value : read.value ≡ 0
  pub zero_stamp : read.stamp ≡ 0
  pub unsighted : (earlier storer store : ℕ) → earlier < read.place
      → HasSighted done source read.process earlier read.cell storer store → ⊥
  pub unknown : (storer place value point : ℕ) → HasStored done storer place read.cell value point
      → is_known storer place read.point → ⊥

-- the process's own store: its last one there before the read
pub record IsOwnLast (done : Deeds) (read : Reading) (place : ℕ) : Type 0 where
  pub before : place < read.place
  pub last : (later value point : ℕ) → place < later → later < read.place
      → HasStored done read.process later read.cell value point → ⊥

-- another process's store: the first that will do
pub record IsFirstOther (done : Deeds) (is_known : Known) (source : Source) (read : Reading) (place : ℕ) : Type 0 where
  pub beyond : IsBeyond done source read.process read.place read.cell read.writer place
  pub first : (earlier : ℕ) → earlier < place → IsSuch done is_known read earlier
      → IsBeyond done source read.process read.place read.cell read.writer earlier → ⊥

-- what a read may give: by its writer
pub record IsRightRead (done : Deeds) (is_known : Known) (source : Source) (read : Reading) : Type 0 where
  pub nobody : read.writer ≡ 0 → IsUnwritten done is_known source read
  pub such : read.writer ≢ 0 → IsSuch done is_known read (source read.process read.place)
  pub own : read.writer ≢ 0 → read.writer ≡ read.process → IsOwnLast done read (source read.process read.place)
  pub another : read.writer ≢ 0 → read.writer ≢ read.process
      → IsFirstOther done is_known source read (source read.process read.place)

-- each read of each process is right; the stores that reads stand for are fixed by this rule
pub record AreRightReads (done : Deeds) (is_known : Known) : Type 0 where
  pub source : Source
  pub right : (read : Reading) → HasRead done read → IsRightRead done is_known source read
