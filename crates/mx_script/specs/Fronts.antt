-- Helpers that only private contracts cite: a text behind a front.
use Rattle.std.specs.Prelude.{ℕ, ◌==◌, List, [], ◌∷◌, Option, None, Some, if◌then◌else◌}

-- what follows this front, in a text that begins with it
unfoldable pub after : List ℕ → List ℕ → Option (List ℕ)
after [] text = Some text
after (f ∷ fs) [] = None
after (f ∷ fs) (c ∷ cs) = if f == c then after fs cs else None

-- what is read of what follows a front, or else another reading
abbrev pub read_or : {A : Type 0} → Option (List ℕ) → (List ℕ → Option A) → Option A → Option A
read_or None read other = other
read_or (Some rest) read other = read rest
