-- What the lines of a process are held against.
use Rattle.std.specs.Prelude.{ℕ, zero, suc, Bool, List, Option, None, slice_get}
use Rattle.mx_sdw.specs.Descriptors.{Descriptor}
use Rattle.mx_state.specs.declared.journal.Entry as journaled
use Rattle.mx_core.specs.declared.elements.Element.{Element}
use Rattle.mx_transcript.specs.Courses.{Judged}

-- the process, the journal in which its entries stand, whether that is at its limit, and the descriptor on which each
-- of its references was judged
pub record Setting : Type 0 where
  pub process : ℕ
  pub journal : List journaled.Entry
  pub full : Bool
  pub descriptor : Element → Descriptor

-- the entry of this number, counted from 1
abbrev pub entry_at : List journaled.Entry → ℕ → Option journaled.Entry
entry_at journal zero = None
entry_at journal (suc place) = slice_get journal place

-- an element with its descriptor
abbrev pub judged : Setting → Element → Judged
judged setting element = record { element = element; desc = setting.descriptor element }
