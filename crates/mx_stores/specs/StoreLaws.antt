-- What the numbers of a store say: when it is known, when it is superseded, and that neither falls along a process's
-- deeds.
use Rattle.std.specs.Prelude.{◌≡◌, ◌↔◌, ℕ, ◌≤◌, List, length}
use Rattle.mx_reads.specs.Deeds.{CellUse, Deed, Deeds}
use Rattle.mx_reads.specs.ReadRule.{Reading, IsSuperseded, IsSuch}
use Rattle.mx_reads.specs.Sightings.{HasStored}
use Rattle.mx_stores.specs.Known.{IsKnown, HasKnownStore}
use Rattle.mx_stores.specs.Least.{IsBy, IsNoLater}
use Rattle.mx_stores.specs.Since.{first, since}
use Rattle.mx_stores.specs.Until.{until}

-- only processes below the count have done anything
abbrev pub AreBelow : ℕ → Deeds → Type 0
AreBelow count done = (u : ℕ) → count ≤ u → length (done u) ≡ 0

abbrev pub KnownLaw : Type 0
KnownLaw = (done : Deeds) (u place q : ℕ) → IsKnown done u place q ↔ IsBy (since (done u) place) q

abbrev pub SinceLaw : Type 0
SinceLaw = (deeds : List Deed) (i j : ℕ) → i ≤ j → IsNoLater (since deeds i) (since deeds j)

abbrev pub SupersededLaw : Type 0
SupersededLaw = (count : ℕ) (done : Deeds) → AreBelow count done → (u place : ℕ) (cell : CellUse) (q : ℕ)
    → IsSuperseded done (IsKnown done) u place cell q ↔ IsBy (until done count u place cell) q

abbrev pub UntilLaw : Type 0
UntilLaw = (count : ℕ) (done : Deeds) (u i j : ℕ) (cell : CellUse) → i ≤ j
    → IsNoLater (until done count u i cell) (until done count u j cell)

abbrev pub FirstLaw : Type 0
FirstLaw = (count : ℕ) (done : Deeds) → AreBelow count done → (cell : CellUse) (q : ℕ)
    → HasKnownStore done cell q ↔ IsBy (first done count cell) q

abbrev pub SuchLaw : Type 0
SuchLaw = (count : ℕ) (done : Deeds) → AreBelow count done → (read : Reading) (i j : ℕ) → i ≤ j
    → HasStored done read.writer j read.cell read.value read.stamp → IsSuch done (IsKnown done) read i
    → IsSuch done (IsKnown done) read j
