-- Append by the supervisor.
use Rattle.std.specs.Prelude.{◌≡◌, ℕ, ◌+◌, ◌<◌, ◌≤◌, ◌||◌, IsTrue, List, [], ◌∷◌, slice_get, Some}
use mathlib.Core.Option.{Option, none, some}
use Rattle.mx_sdw.specs.Admissible.{IsAdmissible}
use Rattle.mx_core.specs.Pages.{page_of, gives, covered_anew}
use Rattle.mx_core.specs.declared.changes.Change.{Change}
use Rattle.mx_core.specs.declared.changes.Run.{Run}
use Rattle.mx_rule.specs.Layout.{Layout}
use Rattle.mx_rule.specs.Parts.{Count}
use Rattle.mx_rule.specs.Shown.{SuperView, Covered, Office, office_of, reported_of}
use Rattle.mx_rule.specs.Allowing.{OfficeExchanges}

pub record MayAppend (x : Office) (p : ℕ) (changes : List Change) (given : List Run) : Type 0 where
  pub low : 1 ≤ p
  pub high : p ≤ x.processes
  pub each : (i : ℕ) (a : Change) → slice_get changes i ≡ Some a → (1 ≤ a.process) × (a.process ≤ x.processes)
      × (a.segno < x.numbers) × IsAdmissible a.desc
  pub pair_once : (i j : ℕ) (a b : Change) → slice_get changes i ≡ Some a → slice_get changes j ≡ Some b
      → a.process ≡ b.process → a.segno ≡ b.segno → i ≡ j
  pub pages : (i : ℕ) (a : Run) → slice_get given i ≡ Some a → a.page + a.pages ≤ 1024
  pub page_once : (i j page : ℕ) (a b : Run) → slice_get given i ≡ Some a → slice_get given j ≡ Some b
      → IsTrue (gives (a ∷ []) page) → IsTrue (gives (b ∷ []) page) → i ≡ j
  pub limit : x.length < 262143
  pub rest : x.length ≤ x.answered
  pub clear : (page : ℕ) → IsTrue (gives given page) → (cell : ℕ) → page_of cell ≡ page → IsTrue (x.clean cell)
  pub covered : (page : ℕ) → IsTrue (covered_anew changes page) → IsTrue (gives given page || x.ready page)

abbrev pub appended_view : {E : Type 0} → ℕ → List Change → List Run → E → SuperView E → SuperView E
appended_view p changes given entry v = record v {
  length = v.length + 1;
  history = (record {
    before = v.length;
    process = p;
    mark = reported_of v.reported p;
    changes = changes;
    given = given;
    entry = entry;
  }) ∷ v.history;
  cleanings = Covered changes given ∷ v.cleanings;
}

-- a step announces a value, of which this is said
abbrev pub Announces : {E : Type 0} → Option E → (E → Type 0) → Type 0
Announces none says = ⊥
Announces (some entry) says = says entry

abbrev pub AppendAllowed : Type 0 → Type 0
AppendAllowed S = (y : Layout) (v : SuperView S) (p : ℕ) (changes : List Change) (given : List Run)
    (entry : S) → MayAppend (office_of v) p changes given
    → OfficeExchanges S y v Count v.length (v.length + 1) (appended_view p changes given entry v)
