-- A search: the first rule that finds something decides.
use Rattle.std.specs.Prelude.{◌≡◌, ℕ, ◌<◌, List, [], ◌∷◌, map, Option, None, Some}
use Rattle.std.specs.List.{slice_get}
use Rattle.mx_search.specs.declared.rules.Rule.{Rule}
use Rattle.mx_search.specs.declared.searching.Found.{Found}

-- what the rules answer to a name, in their order, where each answers so
abbrev pub answers : (Rule → List ℕ → Option Found) → List Rule → List ℕ → List (Option Found)
answers answer rules name = map (λ rule. answer rule name) rules

-- the first answer that is something
abbrev pub first_found : List (Option Found) → Option Found
first_found [] = None
first_found (None ∷ later) = first_found later
first_found (Some found ∷ later) = Some found

-- the same without going through the list: this was found at a place, and nothing at any place before it
pub record IsFirstFound (given : List (Option Found)) (found : Found) : Type 0 where
  pub place : ℕ
  pub at : slice_get given place ≡ Some (Some found)
  pub before : (earlier : ℕ) → earlier < place → slice_get given earlier ≡ Some None
