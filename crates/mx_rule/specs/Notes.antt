-- Split, Join and Report: seats that are split off and joined.
use Rattle.std.specs.Prelude.{List, [], ◌≡◌, ◌⊎◌, ℕ, ◌+◌, ◌≤◌, max, ◌∷◌, length, slice_get, Some}
use Rattle.atomic_table.specs.Table.{Splits, Joins}
use Rattle.mx_core.specs.declared.elements.Kept.{Kept}
use Rattle.mx_core.specs.declared.elements.Kept.TheVariants.{Judged, Missed}
use Rattle.mx_rule.specs.Fronts.{longer_of}
use Rattle.mx_rule.specs.Layout.{Layout}
use Rattle.mx_rule.specs.Rule.{Holds}
use Rattle.mx_rule.specs.Shown.{PassView, Pass, Super, SuperView, Noted, NoteView, Report, ReportView, Spent}

-- the supervisor makes a note
abbrev pub noting_view : {E : Type 0} → SuperView E → SuperView E
noting_view v = record v { made = v.made + 1 }

abbrev pub noted_view : {E : Type 0} → SuperView E → NoteView E
noted_view v = record { number = v.made; start = v.start; floor = v.answered; told = v.told; history = v.history }

abbrev pub SplitAllowed : Type 0 → Type 0
SplitAllowed S = (y : Layout) (v : SuperView S) (id : ℕ) → v.length ≤ v.answered
    → Splits {S = S} (Holds y) id (Super v) (Super (noting_view v)) (Noted (noted_view v))

-- a pass takes a note
abbrev pub joined_view : {E : Type 0} → NoteView E → PassView E → PassView E
joined_view u v = record v {
  floor = max v.floor u.floor;
  told = u ∷ v.told;
  history = longer_of v.history u.history;
  earlier = v.history;
}

abbrev pub JoinAllowed : Type 0 → Type 0
JoinAllowed S = (y : Layout) (v : PassView S) (u : NoteView S) (id other : ℕ)
    → Joins {S = S} (Holds y) id (Pass v) other (Noted u) (Pass (joined_view u v)) Spent

-- the number and the entry of a trace's last event, where that is a miss
abbrev pub last_miss : List Kept → ℕ × ℕ
last_miss [] = (0, 0)
last_miss (Missed n by ∷ []) = (n, by)
last_miss (Judged e op d ∷ []) = (0, 0)
last_miss (Missed n by ∷ next ∷ rest) = last_miss (next ∷ rest)
last_miss (Judged e op d ∷ next ∷ rest) = last_miss (next ∷ rest)

-- a pass makes a report, and the supervisor takes it
abbrev pub report_of : {E : Type 0} → ℕ → ℕ → PassView E → ReportView
report_of n by v = record { process = v.process; floor = v.floor; length = length v.trace; segno = n; by = by }

-- a miss of its trace
pub record HasMiss {E : Type 0} (v : PassView E) (n by : ℕ) : Type 0 where
  pub place : ℕ
  pub at : slice_get v.trace place ≡ Some (Missed n by)

-- the report has a miss, or none: then its entry is 0
abbrev pub MakesReportAllowed : Type 0 → Type 0
MakesReportAllowed S = (y : Layout) (v : PassView S) (id n by : ℕ) → (by ≡ 0) ⊎ HasMiss v n by
    → Splits {S = S} (Holds y) id (Pass v) (Pass v) (Report (report_of n by v))

abbrev pub reporting_view : {E : Type 0} → PassView E → ReportView
reporting_view v = report_of (last_miss v.trace).0 (last_miss v.trace).1 v

abbrev pub reported_view : {E : Type 0} → ReportView → SuperView E → SuperView E
reported_view u v = record v { reported = u ∷ v.reported }

abbrev pub ReportAllowed : Type 0 → Type 0
ReportAllowed S = (y : Layout) (v : SuperView S) (u : ReportView) (id other : ℕ)
    → Joins {S = S} (Holds y) id (Super v) other (Report u) (Super (reported_view u v)) Spent
