-- What the rules on points, misses and reads look at: for each process the list of what it did, in order.
use Rattle.std.specs.Prelude.{ℕ, List, Option, Some, None}

-- a cell in one of its uses: since the entry that gave out its page last, 0 where none did
pub record CellUse : Type 0 where
  pub cell : ℕ
  pub since : ℕ

-- A deed: the process made an entry of the journal, stored a value, loaded a value with its writer and that store's
-- stamp, made a reference that touched no word, or missed by an entry. All but entries and misses have a point.
pub data Deed : Type 0 where
  Enters : (number : ℕ) → Deed
  Stores : (cell : CellUse) (value point : ℕ) → Deed
  Loads : (cell : CellUse) (value writer stamp point : ℕ) → Deed
  Refers : (point : ℕ) → Deed
  Misses : (segno by : ℕ) → Deed

abbrev pub point_of : Deed → Option ℕ
point_of (Enters number) = None
point_of (Stores cell value point) = Some point
point_of (Loads cell value writer stamp point) = Some point
point_of (Refers point) = Some point
point_of (Misses segno by) = None

-- the deeds of every process
abbrev pub Deeds : Type 0
Deeds = ℕ → List Deed
