-- What the supervisor, or a process, may hear at any moment: a load of the count changes nothing, and tells what the
-- rule says.
use Rattle.std.specs.Prelude.{◌≡◌, ℕ, ◌≤◌, length, Some, slice_get}
use Rattle.mx_core.specs.RightWords.{IsWord}
use Rattle.mx_core.specs.Words.{number_of}
use Rattle.mx_rule.specs.Allowing.{OfficeTells, PassTells}
use Rattle.mx_rule.specs.Fronts.{IsFront}
use Rattle.mx_rule.specs.Layout.{Layout}
use Rattle.mx_rule.specs.Parts.{Count}
use Rattle.mx_rule.specs.Shown.{PassView, EntryView, SuperView, Office, ReportView, office_of}

-- the process of a report was told of answered entries alone, and the word that it missed has at least that number
pub record IsHeard (x : Office) (u : ReportView) : Type 0 where
  pub floor : u.floor ≤ x.answered
  pub miss : u.by ≤ number_of (x.word u.process u.segno)

-- each descriptor word is right, with what is known settled
abbrev pub AreRightWords : Office → Type 0
AreRightWords x = (p n : ℕ) → IsWord x.start x.answered x.length (λ q. x.table q p n) (x.told p n) (x.word p n)

pub record IsTold {E : Type 0} (v : SuperView E) : Type 0 where
  pub words : AreRightWords (office_of v)
  pub reports : (i : ℕ) (u : ReportView) → slice_get v.reported i ≡ Some u → IsHeard (office_of v) u

-- no entry of its own, in the history that a process was told of, has a mark beyond what it did
abbrev pub AreOwnMarks : {E : Type 0} → PassView E → Type 0
AreOwnMarks {E = E} v = (i : ℕ) (e : EntryView E) → slice_get v.history i ≡ Some e → e.process ≡ v.process
    → e.mark ≤ length v.trace

abbrev pub ListenAllowed : Type 0 → Type 0
ListenAllowed S = (y : Layout) (v : PassView S) → PassTells S y v Count (λ n. v)
    (λ n. AreOwnMarks v × IsFront v.earlier v.history)

abbrev pub HearAllowed : Type 0 → Type 0
HearAllowed S = (y : Layout) (v : SuperView S) → OfficeTells S y v Count (IsTold v)
