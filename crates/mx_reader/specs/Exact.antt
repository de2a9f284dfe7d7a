-- Helpers that only private contracts cite: readings that are exact.
use Rattle.std.specs.Prelude.{◌≡◌, ℕ, List, Option, Some}

-- what is read of a text is what the text is of, where it is of something
pub record IsExact {A : Type 0} (Is : List ℕ → A → Type 0) (read : List ℕ → Option A) : Type 0 where
  pub takes : (text : List ℕ) (a : A) → read text ≡ Some a → Is text a
  pub again : (text : List ℕ) (a : A) → Is text a → read text ≡ Some a
