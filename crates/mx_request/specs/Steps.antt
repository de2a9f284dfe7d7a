-- Helpers that only private contracts cite: steps that may fail.
use Rattle.std.specs.Prelude.{Bool, Option, Some, None, if◌then◌else◌}

-- a step on what another step found
infixl 10 ◌>>=◌
abbrev pub ◌>>=◌ : {A B : Type 0} → Option A → (A → Option B) → Option B
None >>= f = None
(Some a) >>= f = f a

-- the value, where the test holds
abbrev pub when : {A : Type 0} → Bool → A → Option A
when holds a = if holds then Some a else None
