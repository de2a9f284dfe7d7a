-- Reference names: for each ring, from 0 on, the names that stand in it with the numbers that they stand for.
use Rattle.std.specs.Prelude.{ℕ, List, [], replicate, Option, slice_index_or}
use Rattle.std.specs.Map.{lookup}
use Rattle.mx_name.specs.Names.{same_name}

-- the names of one ring, the oldest first
abbrev pub RingNames : Type 0
RingNames = List (List ℕ × ℕ)

-- at first there are none
abbrev pub no_names : List RingNames
no_names = replicate 8 []

-- the names of a ring
abbrev pub names_in : List RingNames → ℕ → RingNames
names_in names ring = slice_index_or names ring []

-- the number that a name stands for in a ring
abbrev pub named : List RingNames → ℕ → List ℕ → Option ℕ
named names ring name = lookup (same_name name) (names_in names ring)
