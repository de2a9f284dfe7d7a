-- The rule: words and views show a world that is good.
use Rattle.std.specs.Prelude.{◌≡◌, ℕ, ◌<◌, ◌≤◌, List, length, Some, slice_get}
use mathlib.Core.Option.{some}
use lib.ListN.{get_elem?}
use Rattle.atomic_table.specs.Table.{State}
use Rattle.mx_core.specs.Invariant.{Good}
use Rattle.mx_core.specs.Notions.{IsProcess}
use Rattle.mx_core.specs.Words.{number_of}
use Rattle.mx_core.specs.World.{Process, World}
use Rattle.mx_core.specs.declared.elements.Kept.{Kept}
use Rattle.mx_rule.specs.Codes.{IsPlain}
use Rattle.mx_rule.specs.Fronts.{IsFront}
use Rattle.mx_rule.specs.Layout.{IsLayout, Layout, ShowsWords, content}
use Rattle.mx_rule.specs.Shown.{View, Super, Pass, Noted, Report, Spent, PassView, EntryView, ReportView, office, office_of, shown, all_told, note_of, fresh_view}

-- which seat is the supervisor's, each process's and each note's; and the history of which all were told a front
pub record Seats (E : Type 0) : Type 0 where
  pub history : List (EntryView E)
  pub chief : ℕ
  pub owner : ℕ → ℕ
  pub noter : ℕ → ℕ

pub record IsPassOf {E : Type 0} (o : Process) (trace : List Kept) (v : PassView E) : Type 0 where
  pub told : o.told ≡ all_told v.start v.told
  pub rest : shown v o trace ≡ v

-- the processes from this one on are the seat's, and did nothing yet
abbrev pub Undealt : {E : Type 0} → World → Seats E → ℕ → ℕ → ℕ → Type 0
Undealt {E = E} w seats j next start = (q : ℕ) → next ≤ q → q ≤ w.processes → (seats.owner q ≡ j)
    × IsPassOf {E = E} (w.process q) (w.trace q) (fresh_view start q)

-- the seat has these views of retired processes
abbrev pub AreRetired : {E : Type 0} → World → Seats E → ℕ → ℕ → List (PassView E) → Type 0
AreRetired {E = E} w seats j next views = (i : ℕ) (u : PassView E) → slice_get views i ≡ Some u
    → (seats.owner u.process ≡ j) × (u.process < next) × IsPassOf (w.process u.process) (w.trace u.process) u
    × IsFront u.history seats.history

-- what a report says of its process is so, and stays so
abbrev pub IsReported : World → ReportView → Type 0
IsReported w u = IsProcess w u.process × (u.length ≤ length (w.trace u.process))
    × (u.floor ≤ (w.process u.process).floor) × (u.by ≤ number_of (w.word u.process u.segno))

abbrev pub AreReported : World → List ReportView → Type 0
AreReported w reports = (i : ℕ) (u : ReportView) → slice_get reports i ≡ Some u → IsReported w u

abbrev pub Knows : {E : Type 0} → World → Seats E → ℕ → View E → Type 0
Knows w seats j (Super v) = (j ≡ seats.chief) × (office w ≡ office_of v) × Undealt w seats j v.next v.start
    × AreRetired w seats j v.next v.retired × AreReported w v.reported × (v.history ≡ seats.history)
Knows w seats j (Pass v) = (seats.owner v.process ≡ j) × IsProcess w v.process
    × IsPassOf (w.process v.process) (w.trace v.process) v × (v.start ≡ w.start)
    × IsFront v.history seats.history × IsFront v.earlier v.history
Knows w seats j (Noted v) = (seats.noter v.number ≡ j) × (w.note v.number ≡ Some (note_of v))
    × IsFront v.history seats.history
Knows w seats j (Report v) = IsReported w v
Knows w seats j Spent = Unit {0}

-- no entry has a mark beyond what its process did
abbrev pub AreMarked : {E : Type 0} → World → List (EntryView E) → Type 0
AreMarked {E = E} w history = (i : ℕ) (e : EntryView E) → slice_get history i ≡ Some e
    → e.mark ≤ length (w.trace e.process)

pub record Holds {S : Type 0} (y : Layout) (s : State S (View S)) : Type 0 where
  pub world : World
  pub seats : Seats S
  pub layout : IsLayout y world.processes world.numbers
  pub good : Good world
  pub marks : AreMarked world seats.history
  pub plain : (c : ℕ) → IsPlain (world.cell c)
  pub words : ShowsWords y world.processes world.numbers (content world) s.words
  pub views : (j : ℕ) (v : View S) → get_elem? s.views j ≡ some v → Knows world seats j v
