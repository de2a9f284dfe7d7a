-- What the cells hold, and what is right of reads and cells together.
use Rattle.std.specs.Prelude.{Bool, IsTrue, ◌≡◌, ◌≢◌, ℕ, ◌<◌, ◌≤◌, length}
use Rattle.mx_reads.specs.Deeds.{CellUse, Deeds}
use Rattle.mx_reads.specs.Growth.{AreWithin}
use Rattle.mx_reads.specs.ReadRule.{Fronts, known_by, Reading, HasRead, IsRightRead}
use Rattle.mx_reads.specs.Sightings.{Source, HasStored, HasSighted, IsLatest}

-- the contents of a cell: a value, who stored it (0: nobody), and at which point
pub record Held : Type 0 where
  pub value : ℕ
  pub writer : ℕ
  pub stamp : ℕ

-- A cell is zero and nobody has stored there; or it has its writer's last store there, which is known at the point of
-- no store there. A process whose last sighting of the cell was of another has sighted only earlier
-- stores of the writer.
pub record IsHeld (done : Deeds) (front : Fronts) (source : Source) (cell : CellUse) (held : Held) : Type 0 where
  pub zero_value : held.writer ≡ 0 → held.value ≡ 0
  pub zero_stamp : held.writer ≡ 0 → held.stamp ≡ 0
  pub unwritten : held.writer ≡ 0 → (u place value point : ℕ) → HasStored done u place cell value point → ⊥
  pub place : ℕ
  pub stored : held.writer ≢ 0 → HasStored done held.writer place cell held.value held.stamp
  pub last : held.writer ≢ 0 → (later value point : ℕ) → HasStored done held.writer later cell value point
      → later ≤ place
  pub unseen : held.writer ≢ 0 → (u at value point : ℕ) → HasStored done u at cell value point
      → place < front held.writer point → ⊥
  pub onward : held.writer ≢ 0 → (p : ℕ)
      → ((store : ℕ) → IsLatest done source p (length (done p)) cell held.writer store → ⊥)
      → (earlier store : ℕ) → HasSighted done source p earlier cell held.writer store → store < place

-- What is right when the journal has so many entries (the bound), of the processes below the count: no point exceeds
-- the bound, no more deeds are known than were done, each read is right, and each present cell holds what it should.
pub record AreRight (count bound : ℕ) (done : Deeds) (front : Fronts) (present : CellUse → Bool)
    (memory : CellUse → Held) : Type 0 where
  pub within : AreWithin bound done
  pub low : (u q : ℕ) → q ≤ bound → front u q ≤ length (done u)
  pub idle : (u : ℕ) → count ≤ u → length (done u) ≡ 0
  pub source : Source
  pub right : (read : Reading) → HasRead done read → IsRightRead done (known_by front) source read
  pub held : (cell : CellUse) → IsTrue (present cell) → IsHeld done front source cell (memory cell)
