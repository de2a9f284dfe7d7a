-- The shared words of a world.
use Rattle.std.specs.Prelude.{◌≡◌, ℕ, ◌<◌, ◌≤◌, List, length, slice_index}
use Rattle.mx_core.specs.World.{World}
use Rattle.mx_rule.specs.Codes.{word_code, cell_code}
use Rattle.mx_rule.specs.Parts.{Part, Count, Answered, Flag, ConnectWord, DescriptorAt, CellAt, IsPart, number_in}
pub use Rattle.mx_rule.specs.declared.layout.Layout.{Layout}

-- the layout is that of a world of these many processes and numbers
pub record IsLayout (y : Layout) (processes numbers : ℕ) : Type 0 where
  pub few : processes ≤ 15
  pub processes_is : processes ≡ y.processes
  pub numbers_is : numbers ≡ y.numbers

-- what each word is in a world
abbrev pub content : World → Part → ℕ
content w Count = w.length
content w Answered = w.answered
content w (Flag p) = (w.process p).flag
content w (ConnectWord p) = (w.process p).connect
content w (DescriptorAt p n) = word_code (w.word p n)
content w (CellAt c) = cell_code (w.cell c)

pub record ShowsWords (y : Layout) (processes numbers : ℕ) (content : Part → ℕ) (words : List ℕ) : Type 0 where
  pub wide : (x : Part) → IsPart processes numbers x → number_in y x < length words
  pub each : (x : Part) → IsPart processes numbers x → slice_index words (number_in y x) ≡ content x
