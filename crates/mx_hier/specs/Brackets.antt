-- Brackets as requests give them: three rings.
use Rattle.std.specs.Prelude.{ℕ, nat_le, List, [], ◌∷◌, Option, Some, None, if◌then◌else◌}
use Rattle.std.specs.Option.{option_and_then}
use Rattle.mx_sdw.specs.Rings.{Bracketing, brackets_of}

-- three rings as brackets, where they are in order
abbrev pub bracketing : List ℕ → Option Bracketing
bracketing (r1 ∷ r2 ∷ r3 ∷ []) = brackets_of r1 r2 r3
bracketing other = None

-- brackets that a caller in this ring may set: in order, and the first not below the ring
abbrev pub settable : ℕ → List ℕ → Option Bracketing
settable ring rings =
    option_and_then (λ brackets. if nat_le ring brackets.r1 then Some brackets else None) (bracketing rings)
