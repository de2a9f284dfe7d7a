-- Why a step is not enabled: the first condition of its kind that fails. Of several pairs, processes or pages the first
-- is named.
use Rattle.std.specs.Prelude.{◌≡◌, ◌≢◌, ℕ, ◌^◌, ◌<◌, ◌≤◌, IsTrue, true, length}
use Rattle.mx_sdw.specs.Operations.{writes}
use Rattle.mx_core.specs.AssociativeMemory.{HasRecall}
use Rattle.mx_core.specs.Acknowledging.{HasChanged, HasLeft}
use Rattle.mx_core.specs.Append.{IsEntryInRange, IsClearAt, IsCoveredAt}
use Rattle.mx_core.specs.Cells.{IsHolding}
use Rattle.mx_core.specs.FirstFailing.{First, NamesFirst, NamesFirstPair}
use Rattle.mx_core.specs.Judging.{loads}
use Rattle.mx_core.specs.Memory.{IsBare}
use Rattle.mx_core.specs.Notes.{IsNoted}
use Rattle.mx_core.specs.Notions.{IsProcess, IsPair, IsPending, NothingPending, IsChanged, IsStruck}
use Rattle.mx_core.specs.Pages.{page_of}
use Rattle.mx_core.specs.Steps.{Can}
use Rattle.mx_core.specs.Striking.{IsFaulty}
use Rattle.mx_core.specs.TakesMemory.{takes_memory}
use Rattle.mx_core.specs.World.{Outside, Entering, Ready, World}
use Rattle.mx_core.specs.declared.steps.Cause.{Cause}
use Rattle.mx_core.specs.declared.steps.Cause.TheVariants as cause
use Rattle.mx_core.specs.declared.steps.Step.{Step}
use Rattle.mx_core.specs.declared.steps.StepError.{StepError}
use Rattle.mx_core.specs.declared.steps.StepError.TheVariants.{NotEnabled, Memory}
use Rattle.mx_core.specs.declared.steps.Step.TheVariants.{Append, Strike, Connect, Look, Acknowledge, Answer, Settle, Clear, Split, Report, Enter, LoadConnect, LoadDesc, Recall, LoadCell, StoreCell, Leave, Join}

abbrev pub StruckAt : World → ℕ → ℕ → Type 0
StruckAt w p n = IsChanged w p n → IsStruck w p n

abbrev pub AcknowledgedAt : World → ℕ → Type 0
AcknowledgedAt w p = (n : ℕ) → IsChanged w p n → IsTrue (w.process p).acknowledged

abbrev pub IsCause : World → Step → Cause → Type 0
IsCause w (Append p changes given) why =
    First (IsEntryInRange w p changes given) (why ≡ cause.Range)
    (First (w.length < 262143) (why ≡ cause.Limit)
    (First (NothingPending w) (why ≡ cause.Pending)
    (First ((page : ℕ) → IsClearAt w given page) (NamesFirst (IsClearAt w given) cause.NotClear why)
    (First ((page : ℕ) → IsCoveredAt w changes given page)
    (NamesFirst (IsCoveredAt w changes given) cause.NotGiven why) ⊥))))
IsCause w (Strike p n) why =
    First (IsPair w p n) (why ≡ cause.Range)
    (First (IsPending w) (why ≡ cause.NothingPending)
    (First (IsChanged w p n) (why ≡ cause.NotChanged) ⊥))
IsCause w (Connect p) why =
    First (IsProcess w p) (why ≡ cause.Range)
    (First (IsPending w) (why ≡ cause.NothingPending)
    (First (HasChanged w p) (why ≡ cause.NotChanged)
    (First ((n : ℕ) → StruckAt w p n) (NamesFirst (StruckAt w p) (cause.Unstruck p) why) ⊥)))
IsCause w (Look p) why =
    First (IsProcess w p) (why ≡ cause.Range)
    (First (IsPending w) (why ≡ cause.NothingPending)
    (First ((w.process p).connect ≡ w.length) (why ≡ cause.Unconnected p)
    (First ((w.process p).flag ≢ 0) (why ≡ cause.Outside p) ⊥)))
IsCause w (Acknowledge p) why =
    First (IsProcess w p) (why ≡ cause.Range)
    (First (IsPending w) (why ≡ cause.NothingPending)
    (First ((w.process p).connect ≡ w.length) (why ≡ cause.Unconnected p)
    (First (HasLeft (w.process p)) (why ≡ cause.Inside p) ⊥)))
IsCause w Answer why =
    First (IsPending w) (why ≡ cause.NothingPending)
    (First ((p n : ℕ) → StruckAt w p n) (NamesFirstPair (StruckAt w) cause.Unstruck why)
    (First ((p : ℕ) → AcknowledgedAt w p) (NamesFirst (AcknowledgedAt w) cause.Unacknowledged why) ⊥))
IsCause w (Settle p n) why =
    First (IsPair w p n) (why ≡ cause.Range)
    (First (NothingPending w) (why ≡ cause.Pending)
    (First (IsFaulty w p n) (why ≡ cause.NotFault) ⊥))
IsCause w (Clear cell) why =
    First (cell < 65536) (why ≡ cause.Range)
    (First (NothingPending w) (why ≡ cause.Pending)
    (First (IsBare (w.table w.length) (page_of cell)) (why ≡ cause.InUse (page_of cell)) ⊥))
IsCause w Split why =
    First (NothingPending w) (why ≡ cause.Pending) ⊥
IsCause w (Report p n) why =
    First (IsProcess w p) (why ≡ cause.Range)
    (First (n ≤ length (w.trace p)) (why ≡ cause.Range) ⊥)
IsCause w (Enter p) why =
    First (IsProcess w p) (why ≡ cause.Range)
    (First ((w.process p).stage ≡ Outside) (why ≡ cause.Inside p) ⊥)
IsCause w (LoadConnect p) why =
    First (IsProcess w p) (why ≡ cause.Range)
    (First ((w.process p).stage ≡ Entering) (why ≡ cause.NotEntering p) ⊥)
IsCause w (LoadDesc p n op ring word) why =
    First (IsProcess w p) (why ≡ cause.Range)
    (First ((w.process p).stage ≡ Ready) (why ≡ cause.NotReady p) ⊥)
IsCause w (Recall p n op ring word) why =
    First (IsProcess w p) (why ≡ cause.Range)
    (First ((w.process p).stage ≡ Ready) (why ≡ cause.NotReady p)
    (First (HasRecall (w.process p).memory n) (why ≡ cause.NoRecall p n) ⊥))
IsCause w (LoadCell p) why =
    First (IsProcess w p) (why ≡ cause.Range)
    (First (IsHolding w p loads) (why ≡ cause.NoHold) ⊥)
IsCause w (StoreCell p value) why =
    First (IsProcess w p) (why ≡ cause.Range)
    (First (value < 2 ^ 36) (why ≡ cause.Range)
    (First (IsHolding w p writes) (why ≡ cause.NoHold) ⊥))
IsCause w (Leave p) why =
    First (IsProcess w p) (why ≡ cause.Range)
    (First ((w.process p).stage ≢ Outside) (why ≡ cause.Outside p) ⊥)
IsCause w (Join p i) why =
    First (p ≤ w.processes) (why ≡ cause.Range)
    (First (IsNoted w i) (why ≡ cause.NoNote) ⊥)

pub record HasCause (w : World) (step : Step) : Type 0 where
  pub why : Cause
  pub is : IsCause w step why

-- a step is refused with a cause, or for want of memory; that only where it is enabled, and of a kind that takes some
abbrev pub IsRefusal : World → Step → StepError → Type 0
IsRefusal w step (NotEnabled why) = IsCause w step why
IsRefusal w step Memory = Can w step × (takes_memory step ≡ true)
