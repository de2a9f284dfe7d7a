-- The reads of a process in order: each is decided from the choices made for those before it.
use Rattle.std.specs.Prelude.{◌≡◌, ◌↔◌, ℕ, zero, suc, ◌<◌, List, [], ◌∷◌, ◌++◌, length, Option, Some, None, IsSome, slice_get, slice_index_or}
use Rattle.mx_reads.specs.Deeds.{Deed, Deeds}
use Rattle.mx_reads.specs.ReadRule.{Reading, HasRead, IsRightRead, AreRightReads}
use Rattle.mx_reads.specs.Sightings.{Source}
use Rattle.mx_stores.specs.Choices.{choice}
use Rattle.mx_stores.specs.Known.{IsKnown}
use Rattle.mx_stores.specs.Reads.{read_of}
use Rattle.mx_stores.specs.StoreLaws.{AreBelow}

-- the reads of process p below this place are right, for some stores that they stand for
pub record AreRightTo (done : Deeds) (p here : ℕ) : Type 0 where
  pub source : Source
  pub right : (read : Reading) → HasRead done read → read.process ≡ p → read.place < here
      → IsRightRead done (IsKnown done) source read

-- the stores that one process's deeds stand for, by place
abbrev pub source_of : List ℕ → Source
source_of chosen p here = slice_index_or chosen here 0

abbrev pub choice_if : Deeds → ℕ → List ℕ → Option Reading → Option ℕ
choice_if done count chosen None = Some 0
choice_if done count chosen (Some read) = choice done count (source_of chosen) read

-- the choice for a deed at the place `here`, 0 where it is no read
abbrev pub choice_for : Deeds → ℕ → ℕ → ℕ → List ℕ → Option Deed → Option ℕ
choice_for done count p here chosen None = Some 0
choice_for done count p here chosen (Some deed) = choice_if done count chosen (read_of p here deed)

abbrev pub with_choice : List ℕ → Option ℕ → Option (List ℕ)
with_choice chosen None = None
with_choice chosen (Some place) = Some (chosen ++ place ∷ [])

abbrev pub next_choice : Deeds → ℕ → ℕ → ℕ → Option (List ℕ) → Option (List ℕ)
next_choice done count p here None = None
next_choice done count p here (Some chosen) =
    with_choice chosen (choice_for done count p here chosen (slice_get (done p) here))

-- the choices for the deeds of process p before a place; none where one of its reads is wrong
abbrev pub choices : Deeds → ℕ → ℕ → ℕ → Option (List ℕ)
choices done count p zero = Some []
choices done count p (suc here) = next_choice done count p here (choices done count p here)

-- the reads of a process below a place are right exactly where there is a choice for each
abbrev pub RightToLaw : Type 0
RightToLaw = (count : ℕ) (done : Deeds) → AreBelow count done → (p here : ℕ)
    → AreRightTo done p here ↔ IsSome (choices done count p here)

-- all reads are right exactly where there is a choice for each read of each process
abbrev pub RightReadsLaw : Type 0
RightReadsLaw = (count : ℕ) (done : Deeds) → AreBelow count done
    → AreRightReads done (IsKnown done)
    ↔ ((p : ℕ) → p < count → IsSome (choices done count p (length (done p))))

-- the first place where there is no choice
pub record IsWrong (done : Deeds) (count p place : ℕ) : Type 0 where
  pub within : place < length (done p)
  pub chosen : IsSome (choices done count p place)
  pub wrong : choices done count p (suc place) ≡ None
