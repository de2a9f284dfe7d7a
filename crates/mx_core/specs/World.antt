-- The world of the core machine: the history, the shared words, and what the supervisor and each process keep.
use Rattle.std.specs.Prelude.{ℕ, Bool, List, Option}
use Rattle.mx_sdw.specs.Descriptors.{Descriptor}
use Rattle.mx_reads.specs.Held.{Held}
use Rattle.mx_core.specs.Words.{DescriptorWord, Triple, Asked}
pub use Rattle.mx_core.specs.declared.elements.Kept.{Kept}
pub use Rattle.mx_core.specs.declared.elements.Kept.TheVariants.{Judged, Missed}
pub use Rattle.mx_core.specs.declared.words.Stage.{Stage}
pub use Rattle.mx_core.specs.declared.words.Stage.TheVariants.{Outside, Entering, Ready}

-- one process, with its flag and its connect word
pub record Process : Type 0 where
  -- how much of the history it was told of, and for each pair with which number it knows it settled
  pub floor : ℕ
  pub told : ℕ → ℕ → ℕ
  pub stage : Stage
  -- its flag is 0, or the turn that it took last
  pub turn : ℕ
  pub flag : ℕ
  -- its connect word, and what that was when the memory was last known to be right
  pub connect : ℕ
  pub cleared : ℕ
  pub memory : List Triple
  -- what it judged on last, and what it was granted there whose cell step is still to come
  pub basis : Option Triple
  pub hold : Option Asked
  -- what the supervisor knows of it while an entry is pending: a flag that it saw (0: none), and that it uses the old
  -- access no more
  pub look : ℕ
  pub acknowledged : Bool

-- what the supervisor tells a process
pub record Note : Type 0 where
  pub floor : ℕ
  pub told : ℕ → ℕ → ℕ

-- of an entry: whose it is, and how long that process's trace was known to be
pub record Entry : Type 0 where
  pub process : ℕ
  pub mark : ℕ

pub record World : Type 0 where
  -- processes are 1 to this; each has numbers below this
  pub processes : ℕ
  pub numbers : ℕ
  -- the history: so many entries at the opening, so many answered, so many in all
  pub start : ℕ
  pub answered : ℕ
  pub length : ℕ
  -- the descriptor of each process and number after so many entries
  pub table : ℕ → ℕ → ℕ → Descriptor
  pub entry : ℕ → Entry
  -- the pages that each entry gave out
  pub given : ℕ → ℕ → Bool
  -- the shared words, beside the flags and connect words
  pub word : ℕ → ℕ → DescriptorWord
  pub cell : ℕ → Held
  -- what the supervisor keeps: settled numbers, lengths of traces that it heard of, clean cells, ready pages
  pub told : ℕ → ℕ → ℕ
  pub reported : ℕ → ℕ
  pub clean : ℕ → Bool
  pub ready : ℕ → Bool
  -- the notes made, numbered from 0, each until it is joined
  pub made : ℕ
  pub note : ℕ → Option Note
  pub process : ℕ → Process
  pub trace : ℕ → List Kept
