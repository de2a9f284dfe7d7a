-- What the invariant says of the end of the history, where its clauses speak only of the answered length.
use Rattle.std.specs.Prelude.{◌≡◌, ◌≢◌, ◌⊎◌, ℕ, IsTrue, Some, slice_get}
use Rattle.mx_sdw.specs.Descriptors.{Descriptor}
use Rattle.mx_reads.specs.Deeds.{CellUse, Loads}
use Rattle.mx_reads.specs.Sightings.{HasStored}
use Rattle.mx_core.specs.Keeping.{IsCurrent, Keeps}
use Rattle.mx_core.specs.Deeds.{deeds}
use Rattle.mx_core.specs.Notions.{IsPending, IsChanged, IsStruck}
use Rattle.mx_core.specs.Pages.{page_of, cell_use}
use Rattle.mx_core.specs.Words.{Valid, Fault, Triple}
use Rattle.mx_core.specs.World.{World}

-- a cell in its present use
abbrev pub in_use : World → ℕ → CellUse
in_use w c = cell_use w.start w.given c w.length

pub record Sentences (w : World) : Type 0 where
  -- 2: a valid word says what the table has at the end too, unless the pair is changed
  pub valid : (p n k : ℕ) (d : Descriptor) → w.word p n ≡ Valid k d → (IsChanged w p n → ⊥) → w.table w.length p n ≡ d
  -- 3: after a fault's entry the pair is the same at the end too, unless it is changed and the fault is older
  pub fault : (p n k : ℕ) → w.word p n ≡ Fault k → (IsChanged w p n → ⊥) ⊎ (k ≡ w.length)
      → w.table w.length p n ≡ w.table k p n
  -- 4: so is what a process keeps, unless the pair is changed and the process has not acknowledged
  pub kept : (p : ℕ) (u : Triple) → IsCurrent (w.process p).cleared (w.process p).connect (w.process p).stage
      → Keeps (w.process p).basis (w.process p).memory u → (IsChanged w p u.segno → IsTrue (w.process p).acknowledged)
      → w.table w.length p u.segno ≡ u.desc
  -- 5: a process acknowledges only while an entry is pending, and all its changed pairs are struck
  pub pending : (p : ℕ) → IsTrue (w.process p).acknowledged → IsPending w
  pub struck : (p n : ℕ) → IsTrue (w.process p).acknowledged → IsChanged w p n → IsStruck w p n
  -- 9: where a process stored in a cell in its present use, or read a written value there, and the page is ready, the
  -- cell's writer is not 0
  pub stored : (p i c value point : ℕ) → HasStored (deeds w) p i (in_use w c) value point
      → IsTrue (w.ready (page_of c)) → (w.cell c).writer ≢ 0
  pub read : (p i c value writer stamp point : ℕ)
      → slice_get (deeds w p) i ≡ Some (Loads (in_use w c) value writer stamp point) → writer ≢ 0
      → IsTrue (w.ready (page_of c)) → (w.cell c).writer ≢ 0
