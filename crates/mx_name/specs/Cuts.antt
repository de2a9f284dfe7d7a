-- A text cut in two at a byte.
use Rattle.std.specs.Prelude.{ℕ, ◌==◌, List, [], ◌∷◌, ◌++◌, Option, None, Some, if◌then◌else◌}

-- a cut further right, with this front before it
abbrev pub behind : List ℕ → Option (List ℕ × List ℕ) → Option (List ℕ × List ℕ)
behind front None = None
behind front (Some p) = Some (front ++ p.0, p.1)

-- what stands before the first such byte, and what after it
unfoldable pub cut_at : ℕ → List ℕ → Option (List ℕ × List ℕ)
cut_at byte [] = None
cut_at byte (c ∷ cs) = if c == byte then Some ([], cs) else behind (c ∷ []) (cut_at byte cs)
