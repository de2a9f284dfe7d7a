-- What becomes of the bytes that a source has left and of those that a sink has taken, each told or not.
-- `Some bytes` tells them and `None` doesn't. Whether they are told stays as it is.
use Rattle.std.specs.Prelude.{◌≡◌, ℕ, ◌+◌, ◌<◌, ◌≤◌, List, [], ◌++◌, length, take, drop, Option, Some, None}

-- these bytes are taken from the front
abbrev pub Takes : Option (List ℕ) → Option (List ℕ) → List ℕ → Type 0
Takes (Some before) (Some after) bytes = before ≡ bytes ++ after
Takes (Some before) None bytes = ⊥
Takes None after bytes = after ≡ None

-- some bytes are taken from the front, perhaps none, and at most so many
abbrev pub TakesAtMost : ℕ → Option (List ℕ) → Option (List ℕ) → Type 0
TakesAtMost most before after = (bytes : List ℕ) × (length bytes ≤ most) × Takes before after bytes

-- these bytes are all that was left
abbrev pub TakesAll : Option (List ℕ) → Option (List ℕ) → List ℕ → Type 0
TakesAll (Some before) after bytes = (before ≡ bytes) × (after ≡ Some [])
TakesAll None after bytes = after ≡ None

-- more bytes than the limit were left, and one more than the limit is taken
abbrev pub TakesTooMany : ℕ → Option (List ℕ) → Option (List ℕ) → Type 0
TakesTooMany limit (Some before) after = (limit < length before) × (after ≡ Some (drop (limit + 1) before))
TakesTooMany limit None after = after ≡ None

-- no byte is left
abbrev pub IsAtEnd : Option (List ℕ) → Type 0
IsAtEnd (Some left) = left ≡ []
IsAtEnd None = Unit {0}

-- these bytes are added at the end
abbrev pub Appends : Option (List ℕ) → Option (List ℕ) → List ℕ → Type 0
Appends (Some before) after bytes = after ≡ Some (before ++ bytes)
Appends None after bytes = after ≡ None

-- the first of these bytes are added at the end, perhaps none, and not all
abbrev pub AppendsPart : Option (List ℕ) → Option (List ℕ) → List ℕ → Type 0
AppendsPart before after bytes = (count : ℕ) × (count < length bytes) × Appends before after (take count bytes)
