-- Which descriptors a request changed, and what every change of a table is.
use Rattle.std.specs.Prelude.{◌≡◌, ◌≢◌, ◌⊎◌, ℕ, ◌<◌, ◌≤◌, List, Contains}
use Rattle.std.specs.List.{AllPairs}
use Rattle.mx_core.specs.declared.changes.Change.{Change}
use Rattle.mx_sdw.specs.Admissible.{IsAdmissible}
use Rattle.mx_sdw.specs.declared.descriptors.Desc.{Desc}
use Rattle.mx_state.specs.Plain.{Plain}
use Rattle.mx_state.specs.Table.{descriptor}

abbrev pub change : ℕ → ℕ → Desc → Change
change process segno desc = record { process = process; segno = segno; desc = desc }

-- in order of process and segment number
abbrev pub IsBefore : Change → Change → Type 0
IsBefore a b = (a.process < b.process) ⊎ ((a.process ≡ b.process) × (a.segno < b.segno))

-- exactly the descriptors that differ, each with its new value, in order
pub record AreChanges (old new : Plain) (changes : List Change) : Type 0 where
  pub each : (p n : ℕ) (desc : Desc) → Contains changes (change p n desc)
      → (descriptor new p n ≡ desc) × (descriptor old p n ≢ desc)
  pub all : (p n : ℕ) → descriptor old p n ≢ descriptor new p n → Contains changes (change p n (descriptor new p n))
  pub ordered : AllPairs IsBefore changes

-- a change that a table of descriptors can take: of one of 1 to 15 processes, of a number up to the last, to a
-- descriptor that a table may hold
pub record IsBounded (last_segno : ℕ) (c : Change) : Type 0 where
  pub first : 1 ≤ c.process
  pub last : c.process ≤ 15
  pub number : c.segno ≤ last_segno
  pub admissible : IsAdmissible c.desc
