-- The shared words, by what they are: the count of the journal's entries, the answered length, a flag and a connect
-- word for each process, a descriptor word for each number of each process, and the cells. Which word is which is this
-- model's own choice.
use Rattle.std.specs.Prelude.{ℕ, ◌+◌, ◌*◌, ◌-◌, ◌<◌, ◌≤◌}
use Rattle.mx_rule.specs.declared.layout.Layout.{Layout}

pub data Part : Type 0 where
  Count : Part
  Answered : Part
  Flag : ℕ → Part
  ConnectWord : ℕ → Part
  DescriptorAt : ℕ → ℕ → Part
  CellAt : ℕ → Part

-- a part that a table of so many processes and numbers has
abbrev pub IsPart : ℕ → ℕ → Part → Type 0
IsPart processes numbers Count = Unit {0}
IsPart processes numbers Answered = Unit {0}
IsPart processes numbers (Flag p) = (1 ≤ p) × (p ≤ processes)
IsPart processes numbers (ConnectWord p) = (1 ≤ p) × (p ≤ processes)
IsPart processes numbers (DescriptorAt p n) = (1 ≤ p) × (p ≤ processes) × (n < numbers)
IsPart processes numbers (CellAt c) = c < 65536

-- which word it is, from 0 on, in this order
abbrev pub number_in : Layout → Part → ℕ
number_in y Count = 0
number_in y Answered = 1
number_in y (Flag p) = 1 + p
number_in y (ConnectWord p) = 1 + y.processes + p
number_in y (DescriptorAt p n) = 2 + 2 * y.processes + (y.numbers * (p - 1) + n)
number_in y (CellAt c) = 2 + 2 * y.processes + y.numbers * y.processes + c

-- how many words there are
abbrev pub words_in : Layout → ℕ
words_in y = 2 + 2 * y.processes + y.numbers * y.processes + 65536
