-- What a process keeps of descriptors, and when that matters: the words in which its clauses are said.
use Rattle.std.specs.Prelude.{◌≡◌, ◌≢◌, ◌⊎◌, ℕ, ◌<◌, ◌≤◌, Bool, false, IsTrue, List, Option, Some, slice_get}
use Rattle.mx_sdw.specs.Descriptors.{Descriptor}
use Rattle.mx_sdw.specs.Operations.{transfers}
use Rattle.mx_core.specs.Judging.{IsGranted}
use Rattle.mx_core.specs.Words.{DescriptorWord, Fault, Triple, Asked}
use Rattle.mx_core.specs.World.{Stage, Outside, Entering, Ready}

abbrev pub IsReady : Stage → Type 0
IsReady Outside = ⊥
IsReady Entering = ⊥
IsReady Ready = Unit {0}

-- a flag is 0 exactly outside, else the turn
abbrev pub HasFlag : Stage → ℕ → ℕ → Type 0
HasFlag Outside flag turn = flag ≡ 0
HasFlag Entering flag turn = (flag ≡ turn) × (0 < turn)
HasFlag Ready flag turn = (flag ≡ turn) × (0 < turn)

pub record IsIn (u : Triple) (memory : List Triple) : Type 0 where
  pub i : ℕ
  pub at : slice_get memory i ≡ Some u

-- what a process may judge on: its basis, and what its memory has
abbrev pub Keeps : Option Triple → List Triple → Triple → Type 0
Keeps basis memory u = (basis ≡ Some u) ⊎ IsIn u memory

-- A triple is what the table has from its entry to the answered length, and to the end once the process acknowledged.
pub record IsTriple (start floor answered length : ℕ) (acknowledged : Bool) (h : ℕ → ℕ → Descriptor)
    (u : Triple) : Type 0 where
  pub low : start ≤ u.number
  pub high : u.number ≤ floor
  pub stands : (q : ℕ) → u.number ≤ q → q ≤ answered → h q u.segno ≡ u.desc
  pub now : IsTrue acknowledged → h length u.segno ≡ u.desc

-- a hold's operation is granted on the basis, and waits for its cell step
pub record IsHold (basis : Option Triple) (a : Asked) : Type 0 where
  pub on : Triple
  pub is : basis ≡ Some on
  pub granted : IsGranted on.desc a
  pub waits : transfers a.op ≡ false

-- a process is up to date where what it cleared is its connect word; what it keeps matters when it is that, or ready
abbrev pub IsCurrent : ℕ → ℕ → Stage → Type 0
IsCurrent cleared connect stage = (cleared ≡ connect) ⊎ IsReady stage

-- and late where it is ready and not up to date
pub record IsLate (cleared connect : ℕ) (stage : Stage) : Type 0 where
  pub ready : IsReady stage
  pub behind : cleared ≢ connect

-- the process has a changed pair, and all its changed pairs are struck
pub record IsCut (answered length : ℕ) (h : ℕ → ℕ → Descriptor) (word : ℕ → DescriptorWord) : Type 0 where
  pub segno : ℕ
  pub changed : h length segno ≢ h answered segno
  pub struck : (n : ℕ) → h length n ≢ h answered n → word n ≡ Fault length
