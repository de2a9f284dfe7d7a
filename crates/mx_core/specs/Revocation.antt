-- Revocation: once a change of access is answered, no reference rests on the older access.
use Rattle.std.specs.Prelude.{◌≡◌, ℕ, ◌≤◌, List, length, Some, slice_get}
use Rattle.mx_sdw.specs.Descriptors.{Descriptor}
use Rattle.mx_sdw.specs.declared.operations.Op.{Op}
use Rattle.mx_core.specs.Keeping.{IsCurrent, Keeps}
use Rattle.mx_core.specs.Opening.{CanOpen, opening}
use Rattle.mx_core.specs.Steps.{Can, after, CanAll, after_all}
use Rattle.mx_core.specs.Words.{Triple}
use Rattle.mx_core.specs.World.{Judged, World}
use Rattle.mx_core.specs.declared.elements.Element.{Element}
use Rattle.mx_core.specs.declared.steps.Step.{Step}

-- the step is a reference of the process: it adds an element to its trace, which rests on this descriptor
pub record Refers (w : World) (step : Step) (p : ℕ) (e : Element) (d : Descriptor) : Type 0 where
  pub enabled : Can w step
  pub op : Op
  pub place : ℕ
  pub new : length (w.trace p) ≤ place
  pub at : slice_get ((after w step).trace p) place ≡ Some (Judged e op d)

-- the descriptor is what the table has after all answered entries
abbrev pub IsAnswered : World → ℕ → ℕ → Descriptor → Type 0
IsAnswered w p n d = d ≡ w.table w.answered p n

-- Wherever a list of steps leads, a reference that is made there rests on the access after all answered entries: also
-- one that a process judges on its private memory, and also where pages were cleared and given again.
abbrev pub RevocationLaw : Type 0
RevocationLaw = (processes numbers start : ℕ) (table : ℕ → ℕ → Descriptor) (steps : List Step) (step : Step) (p : ℕ)
    (e : Element) (d : Descriptor) → CanOpen processes numbers start table
    → CanAll (opening processes numbers start table) steps
    → Refers (after_all (opening processes numbers start table) steps) step p e d
    → IsAnswered (after_all (opening processes numbers start table) steps) p e.segno d

-- And so is what a process may still judge on: what its private memory has, while that matters, and its basis.
abbrev pub PrivateMemoryLaw : Type 0
PrivateMemoryLaw = (processes numbers start : ℕ) (table : ℕ → ℕ → Descriptor) (steps : List Step) (p : ℕ) (u : Triple)
    → CanOpen processes numbers start table → CanAll (opening processes numbers start table) steps
    → (w : World) → w ≡ after_all (opening processes numbers start table) steps
    → IsCurrent (w.process p).cleared (w.process p).connect (w.process p).stage
    → Keeps (w.process p).basis (w.process p).memory u → IsAnswered w p u.segno u.desc
