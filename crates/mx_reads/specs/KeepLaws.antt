-- The laws of reads and cells: what is right of them stays right, whatever a process does.
use Rattle.std.specs.Prelude.{Bool, IsTrue, ◌≡◌, ◌≢◌, ◌⊎◌, ℕ, ◌<◌, ◌≤◌, [], ◌∷◌, ◌++◌, length}
use Rattle.mx_reads.specs.Deeds.{CellUse, Deeds, Stores, Loads}
use Rattle.mx_reads.specs.Growth.{Extends, IsQuietWithin}
use Rattle.mx_reads.specs.Held.{Held, AreRight}
use Rattle.mx_reads.specs.ReadRule.{Fronts}
use Rattle.mx_reads.specs.Sightings.{HasStored}

-- a cell that nobody stored in, and that holds zero
pub record IsNew (done : Deeds) (cell : CellUse) (held : Held) : Type 0 where
  pub value : held.value ≡ 0
  pub writer : held.writer ≡ 0
  pub stamp : held.stamp ≡ 0
  pub empty : (u place value point : ℕ) → HasStored done u place cell value point → ⊥

-- A deed that is neither store nor load, or none, and perhaps more entries: nothing that was known changes.
abbrev pub QuietLaw : Type 0
QuietLaw = (count bound bound' p : ℕ) (old new : Deeds) (front front' : Fronts) (present present' : CellUse → Bool)
    (memory : CellUse → Held) → p < count → bound ≤ bound'
    → Extends bound old front new front' p (IsQuietWithin bound')
    → ((u q : ℕ) → q ≤ bound' → front' u q ≤ length (new u))
    → ((cell : CellUse) → IsTrue (present' cell) → IsTrue (present cell) ⊎ IsNew old cell (memory cell))
    → AreRight count bound old front present memory → AreRight count bound' new front' present' memory

-- a store at a point within the bound: the cell holds it, and no other cell changes
abbrev pub StoreLaw : Type 0
StoreLaw = (count bound p : ℕ) (cell : CellUse) (value q : ℕ) (old new : Deeds) (front : Fronts)
    (present present' : CellUse → Bool) (memory memory' : CellUse → Held) → 1 ≤ p → p < count → q ≤ bound
    → new p ≡ old p ++ Stores cell value q ∷ [] → ((u : ℕ) → u ≢ p → new u ≡ old u)
    → memory' cell ≡ record { value = value; writer = p; stamp = q }
    → ((c : CellUse) → c ≢ cell → IsTrue (present' c) → IsTrue (present c) × (memory' c ≡ memory c))
    → AreRight count bound old front present memory → AreRight count bound new front present' memory'

-- a load of what the cell holds
abbrev pub LoadLaw : Type 0
LoadLaw = (count bound p : ℕ) (cell : CellUse) (q : ℕ) (old new : Deeds) (front : Fronts) (present : CellUse → Bool)
    (memory : CellUse → Held) → IsTrue (present cell) → p < count → q ≤ bound
    → new p ≡ old p ++ Loads cell (memory cell).value (memory cell).writer (memory cell).stamp q ∷ []
    → ((u : ℕ) → u ≢ p → new u ≡ old u)
    → AreRight count bound old front present memory → AreRight count bound new front present memory
