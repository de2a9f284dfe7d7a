-- The associative memory of a process: the last sixteen descriptors that it loaded, each with its number and its entry.
use Rattle.std.specs.Prelude.{◌≡◌, ◌≢◌, ℕ, ◌<◌, ◌≤◌, ◌==◌, nat_le, List, [], ◌∷◌, length, find, Option, Some, slice_get}
use Rattle.mx_core.specs.Put.{pick}
use Rattle.mx_core.specs.Words.{Triple}

-- an associative memory has at most 16 triples, one for each number that it has
pub record IsAssociative (memory : List Triple) : Type 0 where
  pub few : length memory ≤ 16
  pub once : (i j : ℕ) (u v : Triple) → slice_get memory i ≡ Some u → slice_get memory j ≡ Some v → u.segno ≡ v.segno
      → i ≡ j

-- what the memory has of a number
abbrev pub recalled : ℕ → List Triple → Option Triple
recalled n memory = find (λ u. u.segno == n) memory

-- the memory has the number
pub record HasRecall (memory : List Triple) (n : ℕ) : Type 0 where
  pub triple : Triple
  pub at : recalled n memory ≡ Some triple

-- the triple replaces that of its number in its place, or goes last
abbrev pub replaced : Triple → List Triple → List Triple
replaced u [] = u ∷ []
replaced u (v ∷ rest) = pick (v.segno == u.segno) (u ∷ rest) (v ∷ replaced u rest)

-- a seventeenth pushes the first out
abbrev pub without_first : List Triple → List Triple
without_first [] = []
without_first (v ∷ rest) = rest

abbrev pub at_most_sixteen : List Triple → List Triple
at_most_sixteen memory = pick (nat_le (length memory) 16) memory (without_first memory)

abbrev pub remembered : Triple → List Triple → List Triple
remembered u memory = at_most_sixteen (replaced u memory)

-- Helpers: the number is that of no triple before a place, of none at all, or first of the triple at a place.
abbrev pub HasNotBefore : ℕ → List Triple → ℕ → Type 0
HasNotBefore n memory place = (j : ℕ) (u : Triple) → j < place → slice_get memory j ≡ Some u → u.segno ≢ n

abbrev pub HasNot : ℕ → List Triple → Type 0
HasNot n memory = HasNotBefore n memory (length memory)

pub record IsAt (n : ℕ) (memory : List Triple) (place : ℕ) : Type 0 where
  pub before : HasNotBefore n memory place
  pub triple : Triple
  pub here : slice_get memory place ≡ Some triple
  pub number : triple.segno ≡ n
