-- The opening, and the seats of the passes.
use Rattle.std.specs.Prelude.{ℕ, ◌+◌, ◌≤◌, List, [], ◌∷◌}
use Rattle.atomic_table.specs.Table.{Splits, Joins, opening as first_state}
use Rattle.mx_core.specs.Opening.{CanOpen, opening}
use Rattle.mx_core.specs.declared.changes.Change.{Change}
use Rattle.mx_rule.specs.Layout.{IsLayout, Layout, ShowsWords, content}
use Rattle.mx_rule.specs.Rule.{Holds}
use Rattle.mx_rule.specs.Shown.{PassView, Pass, Super, SuperView, Spent, base_of, fresh_view}

abbrev pub opening_view : {E : Type 0} → ℕ → ℕ → ℕ → List Change → SuperView E
opening_view processes numbers start base = record {
  processes = processes;
  numbers = numbers;
  start = start;
  answered = start;
  length = start;
  base = base;
  history = [];
  words = [];
  told = [];
  reported = [];
  connects = [];
  looks = [];
  acknowledged = [];
  cleanings = [];
  made = 0;
  next = 1;
  retired = [];
}

abbrev pub OpeningAllowed : Type 0 → Type 0
OpeningAllowed S = (y : Layout) (processes numbers start : ℕ) (base : List Change) (words : List ℕ)
    → CanOpen processes numbers start (base_of base)
    → IsLayout y processes numbers → ShowsWords y processes numbers
    (content (opening processes numbers start (base_of base))) words
    → Holds {S = S} y (first_state words [] (Super (opening_view processes numbers start base)))

-- the supervisor deals the seat of the next process
abbrev pub dealing_view : {E : Type 0} → SuperView E → SuperView E
dealing_view v = record v { next = v.next + 1 }

abbrev pub DealAllowed : Type 0 → Type 0
DealAllowed S = (y : Layout) (v : SuperView S) (id : ℕ) → 1 ≤ v.next → v.next ≤ v.processes
    → Splits {S = S} (Holds y) id (Super v) (Super (dealing_view v)) (Pass (fresh_view v.start v.next))

-- a pass's seat goes to the supervisor
abbrev pub retired_view : {E : Type 0} → PassView E → SuperView E → SuperView E
retired_view u v = record v { retired = u ∷ v.retired }

abbrev pub RetireAllowed : Type 0 → Type 0
RetireAllowed S = (y : Layout) (v : SuperView S) (u : PassView S) (id other : ℕ)
    → Joins {S = S} (Holds y) id (Super v) other (Pass u) (Super (retired_view u v)) Spent
