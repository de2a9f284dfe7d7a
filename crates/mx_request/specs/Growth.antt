-- Helpers that only private contracts cite: a text to which something was added.
use Rattle.std.specs.Prelude.{◌≡◌, ℕ, List, ◌∷◌, ◌++◌}
use Rattle.std.specs.List.{flat_map}

-- it begins as it was
abbrev pub IsGrown : List ℕ → List ℕ → Type 0
IsGrown old new = (more : List ℕ) × (new ≡ old ++ more)

-- fields with a blank before each
abbrev pub blank_before : List (List ℕ) → List ℕ
blank_before fields = flat_map (λ field. 32 ∷ field) fields

-- a text behind its label
abbrev pub labelled : List ℕ → List ℕ → List ℕ
labelled label text = label ++ 32 ∷ text
