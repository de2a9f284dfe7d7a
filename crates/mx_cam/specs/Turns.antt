-- A ring of sixteen places, of which the first so many are taken.
use Rattle.std.specs.Prelude.{◌≡◌, ◌<◌, ℕ, List, ◌++◌, take, drop}
use Rattle.mx_core.specs.AssociativeMemory.{IsAssociative}
use Rattle.mx_core.specs.declared.words.Triple.{Triple}

-- what stands in the taken places, from the place of the first on
abbrev pub in_turn : {A : Type 0} → ℕ → ℕ → List A → List A
in_turn len first items = take len (drop first items ++ take first items)

-- the first stands at the start until all places are taken, and no number is taken twice
pub record IsRing (len first : ℕ) (triples : List Triple) : Type 0 where
  pub whole : len < 16 → first ≡ 0
  pub associative : IsAssociative (in_turn len first triples)
