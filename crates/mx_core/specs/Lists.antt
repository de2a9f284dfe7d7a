-- A list against a function: what stands at each place.
use Rattle.std.specs.Prelude.{◌≡◌, ℕ, ◌<◌, List, length, Some, slice_get}

-- a list has the values of a function up to its length
abbrev pub Lists : {A : Type 0} → List A → (ℕ → A) → Type 0
Lists xs f = (n : ℕ) → n < length xs → slice_get xs n ≡ Some (f n)
