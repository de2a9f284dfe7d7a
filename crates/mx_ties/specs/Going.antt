-- What a process keeps while it runs: of its own deeds, its floor and what it was told, and of nobody else's.
use Rattle.std.specs.Prelude.{◌≡◌, ℕ, ◌<◌, ◌≤◌, List, [], ◌∷◌, ◌++◌, length, Some, slice_get}
use Rattle.mx_state.specs.declared.journal.Entry as journaled
use Rattle.mx_script.specs.Sessions.{Outline}
use Rattle.mx_reads.specs.Deeds.{Deed, Enters, Stores, Loads, Refers, Misses, point_of}
use Rattle.mx_transcript.specs.Misses.{IsChanged}
use Rattle.mx_transcript.specs.Points.{ArePoints}
use Rattle.mx_ties.specs.Ran.{AreMisses}

-- no number in a deed exceeds the floor
abbrev pub IsLow : ℕ → Deed → Type 0
IsLow floor (Enters number) = number ≤ floor
IsLow floor (Stores cell value point) = point ≤ floor
IsLow floor (Loads cell value writer stamp point) = (stamp ≤ floor) × (point ≤ floor)
IsLow floor (Refers point) = point ≤ floor
IsLow floor (Misses segno by) = by ≤ floor

pub record IsGoing (x : Outline) (journal : List journaled.Entry) (start p : ℕ) (done : List Deed) (floor : ℕ)
    (told : ℕ → ℕ) : Type 0 where
  pub begun : start ≤ floor
  pub points : ArePoints start floor done
  pub misses : AreMisses x journal p done
  pub low : (place : ℕ) (d : Deed) → slice_get done place ≡ Some d → IsLow floor d
  pub within : (place number : ℕ) → slice_get done place ≡ Some (Enters number) → number ≤ length journal
  pub told_own : (place number segno : ℕ) → slice_get done place ≡ Some (Enters number)
      → IsChanged x journal p segno number → number ≤ told segno
  pub told_misses : (place segno by : ℕ) → slice_get done place ≡ Some (Misses segno by) → by ≤ told segno

-- neither an entry nor a miss
abbrev pub IsReference : Deed → Type 0
IsReference (Enters number) = ⊥
IsReference (Stores cell value point) = Unit {0}
IsReference (Loads cell value writer stamp point) = Unit {0}
IsReference (Refers point) = Unit {0}
IsReference (Misses segno by) = ⊥

-- an element at a point from the floor on; the floor rises to what was read
abbrev pub SeenLaw : Type 0
SeenLaw = (x : Outline) (journal : List journaled.Entry) (start p : ℕ) (done : List Deed) (floor floor' : ℕ)
    (told : ℕ → ℕ) (deed : Deed) (q : ℕ)
    → IsReference deed → point_of deed ≡ Some q → floor ≤ q → q ≤ floor' → IsLow floor' deed
    → IsGoing x journal start p done floor told → IsGoing x journal start p (done ++ deed ∷ []) floor' told

-- a miss above what the process was told, and what it is told then
abbrev pub MissLaw : Type 0
MissLaw = (x : Outline) (journal more : List journaled.Entry) (start p : ℕ) (done : List Deed) (floor floor' : ℕ)
    (told told' : ℕ → ℕ) (segno by : ℕ)
    → told segno < by → by ≤ floor' → floor ≤ floor' → by ≤ told' segno → ((n : ℕ) → told n ≤ told' n)
    → IsGoing x journal start p done floor told → IsGoing x (journal ++ more) start p
    (done ++ Misses segno by ∷ []) floor' told'

-- an own entry above the floor
abbrev pub EnteredLaw : Type 0
EnteredLaw = (x : Outline) (journal more : List journaled.Entry) (start p : ℕ) (done : List Deed) (floor floor' : ℕ)
    (told told' : ℕ → ℕ) (number : ℕ)
    → floor < number → number ≤ floor' → number ≤ length (journal ++ more) → ((n : ℕ) → told n ≤ told' n)
    → ((segno : ℕ) → IsChanged x (journal ++ more) p segno number → number ≤ told' segno)
    → IsGoing x journal start p done floor told → IsGoing x (journal ++ more) start p
    (done ++ Enters number ∷ []) floor' told'
