-- What the shared words are at the opening, and with what a table may open.
use Rattle.std.specs.Prelude.{◌≡◌, ℕ, ◌+◌, ◌*◌, ◌<◌, ◌≤◌, nat_lt, List, Some, slice_get}
use Rattle.mx_sdw.specs.Admissible.{IsAdmissible}
use Rattle.mx_sdw.specs.Descriptors.{Descriptor}
use Rattle.mx_core.specs.Opening.{opening}
use Rattle.mx_core.specs.Put.{pick}
use Rattle.mx_core.specs.declared.changes.Change.{Change}
use Rattle.mx_rule.specs.Layout.{Layout, content}
use Rattle.mx_rule.specs.Parts.{Part}

-- a descriptor of a pair that the layout has
pub record IsPlaced (y : Layout) (change : Change) : Type 0 where
  pub low : 1 ≤ change.process
  pub high : change.process ≤ y.processes
  pub number : change.segno < y.numbers
  pub desc : IsAdmissible change.desc

abbrev pub ArePlaced : Layout → List Change → Type 0
ArePlaced y base = (i : ℕ) (change : Change) → slice_get base i ≡ Some change → IsPlaced y change

pub record MayOpen (y : Layout) (start : ℕ) (base : List Change) : Type 0 where
  pub some : 1 ≤ y.processes
  pub most : y.processes ≤ 15
  pub limit : start ≤ 262143
  pub each : ArePlaced y base

-- what the words are in the opening world of a table of descriptors
abbrev pub opening_content : Layout → ℕ → (ℕ → ℕ → Descriptor) → Part → ℕ
opening_content y start table = content (opening y.processes y.numbers start table)

-- Helper: the words at the opening where no number is known: flags and cells are zero, each other word is the number of
-- entries before.
abbrev pub blank_number : Layout → ℕ → ℕ → ℕ
blank_number y start i =
    pick (nat_lt i 2) start
    (pick (nat_lt i (2 + y.processes)) 0
    (pick (nat_lt i (2 + 2 * y.processes + y.numbers * y.processes)) start 0))
