-- What a pass holds: a granted read or write whose cell step is still to come.
use Rattle.std.specs.Prelude.{◌≡◌, ℕ, nat_le, Bool, true, Option, Some, None}
use Rattle.mx_sdw.specs.Descriptors.{Descriptor}
use Rattle.mx_sdw.specs.declared.operations.Op.{Op}
use Rattle.mx_core.specs.Judging.{at_once}
use Rattle.mx_core.specs.Pages.{cell_at}
use Rattle.mx_core.specs.Put.{pick}
use Rattle.mx_core.specs.declared.elements.Outcome.{Outcome}
use Rattle.mx_core.specs.declared.words.Asked.{Asked}
use Rattle.mx_core.specs.declared.words.DescriptorWord.{DescriptorWord}
use Rattle.mx_core.specs.declared.words.DescriptorWord.TheVariants.{Valid, Fault}
use Rattle.mx_core.specs.declared.words.Triple.{Triple}
use Rattle.mx_rule.specs.CellSteps.{read_view, stored_view}
use Rattle.mx_rule.specs.Codes.{cell_said}
use Rattle.mx_rule.specs.Shown.{PassView}

-- the cell of the reference that is held
abbrev pub held_at : Option Triple → Option Asked → Option ℕ
held_at (Some u) (Some a) = Some (cell_at u.desc a.word)
held_at (Some u) None = None
held_at None hold = None

-- what is asked on a descriptor, and not over at once, waits for its cell
abbrev pub waiting_by : Option Outcome → Descriptor → Asked → Option ℕ
waiting_by None d a = Some (cell_at d a.word)
waiting_by (Some o) d a = None

abbrev pub waiting_cell : Descriptor → Asked → Option ℕ
waiting_cell d a = waiting_by (at_once d a) d a

-- the same on a descriptor word, by a process that was told of so many entries
abbrev pub cell_on : DescriptorWord → ℕ → Asked → Option ℕ
cell_on (Valid number desc) floor a = pick (nat_le number floor) (waiting_cell desc a) None
cell_on (Fault number) floor a = None

-- a reference of such an operation is held
pub record IsHeld {E : Type 0} (v : PassView E) (asks : Op → Bool) : Type 0 where
  pub on : Triple
  pub asked : Asked
  pub basis : v.basis ≡ Some on
  pub hold : v.hold ≡ Some asked
  pub operation : asks asked.op ≡ true

-- the word of the cell is read
abbrev pub read_by : {E : Type 0} → Option Triple → Option Asked → ℕ → PassView E → PassView E
read_by (Some u) (Some a) n v = read_view u a (cell_said n) v
read_by (Some u) None n v = v
read_by None hold n v = v

abbrev pub read_held : {E : Type 0} → ℕ → PassView E → PassView E
read_held n v = read_by v.basis v.hold n v

-- a value is stored in it
abbrev pub stored_by : {E : Type 0} → Option Triple → Option Asked → ℕ → PassView E → PassView E
stored_by (Some u) (Some a) value v = stored_view u a value v
stored_by (Some u) None value v = v
stored_by None hold value v = v

abbrev pub stored_held : {E : Type 0} → ℕ → PassView E → PassView E
stored_held value v = stored_by v.basis v.hold value v
