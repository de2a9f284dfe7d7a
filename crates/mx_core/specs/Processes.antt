-- What is right of one process: of its floor, basis, memory and hold, of its flag and connect word, and of what the
-- supervisor knows of it. The numbers name the clauses.
use Rattle.std.specs.Prelude.{◌≡◌, ◌≢◌, ℕ, ◌<◌, ◌≤◌, IsTrue, Some}
use Rattle.mx_sdw.specs.Descriptors.{Descriptor}
use Rattle.mx_core.specs.Keeping.{IsReady, HasFlag, Keeps, IsTriple, IsHold, IsCurrent, IsLate, IsCut}
use Rattle.mx_core.specs.Words.{DescriptorWord, Triple, Asked}
use Rattle.mx_core.specs.World.{Process}

pub record IsGoodProcess (start answered length : ℕ) (h : ℕ → ℕ → Descriptor) (word : ℕ → DescriptorWord)
    (o : Process) : Type 0 where
  -- 1: floors lie from the opening to the answered length
  pub floor_low : start ≤ o.floor
  pub floor_high : o.floor ≤ answered
  -- 6: what a process knows settled is at most its floor
  pub told : (p n : ℕ) → o.told p n ≤ o.floor
  -- 4: a process with a basis is ready; basis and memory are right while they matter; a hold is granted on the basis
  pub ready : (u : Triple) → o.basis ≡ Some u → IsReady o.stage
  pub triples : IsCurrent o.cleared o.connect o.stage → (u : Triple) → Keeps o.basis o.memory u
      → IsTriple start o.floor answered length o.acknowledged h u
  pub hold : (a : Asked) → o.hold ≡ Some a → IsHold o.basis a
  -- 5: acknowledged or late only while an entry is pending, with the length as connect word; never both
  pub acknowledged : IsTrue o.acknowledged
      → (answered < length) × (o.connect ≡ length) × (IsLate o.cleared o.connect o.stage → ⊥)
  pub late : IsLate o.cleared o.connect o.stage → (answered < length) × (o.connect ≡ length)
  -- 10: the order of cleared and connect word; a process that was connected while an entry is pending is cut, and where
  -- it is up to date too, nothing that it keeps is changed; the flag
  pub cleared_low : start ≤ o.cleared
  pub cleared_high : o.cleared ≤ o.connect
  pub connect_high : o.connect ≤ length
  pub cut : answered < length → o.connect ≡ length → IsCut answered length h word
  pub same : answered < length → o.connect ≡ length → o.cleared ≡ length → (u : Triple) → Keeps o.basis o.memory u
      → h length u.segno ≡ h answered u.segno
  pub flag : HasFlag o.stage o.flag o.turn
  -- 11: a look is kept only of a connected process while an entry is pending; where that process is late, its flag is
  -- the look
  pub look : o.look ≢ 0 → (answered < length) × (o.connect ≡ length)
  pub looked : o.look ≢ 0 → IsLate o.cleared o.connect o.stage → o.flag ≡ o.look
