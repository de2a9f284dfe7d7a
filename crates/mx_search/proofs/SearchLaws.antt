-- The first answer that is something, and its place.
use Rattle.std.proofs.Common.{ℕ, zero, suc, ◌≡◌, ◌↔◌, ◌<◌, List, [], ◌∷◌, Option, None, Some, refl, arith}
use Rattle.std.specs.List.{slice_get}
use Rattle.mx_search.specs.declared.searching.Found.{Found}
use Rattle.mx_search.specs.Searching.{first_found, IsFirstFound}

further : (given : List (Option Found)) (found : Found) → IsFirstFound given found → IsFirstFound (None ∷ given) found
further given found first = record { place = suc first.place; at = first.at; before = before }
  where
    before : (earlier : ℕ) → earlier < suc first.place → slice_get (None ∷ given) earlier ≡ Some None
    before zero lt = refl
    before (suc e) lt = first.before e (omega arith)

has_place : (given : List (Option Found)) (found : Found) → first_found given ≡ Some found → IsFirstFound given found
has_place [] found e = absurd (cc)
has_place (None ∷ later) found e = further later found (has_place later found e)
has_place (Some other ∷ later) found e = record { place = 0; at = e2; before = λ earlier lt. absurd (omega arith) }
  where
    e2 : Some (Some other) ≡ Some (Some found)
    e2 = let same : other ≡ found = cc in rw same refl

at_place : (given : List (Option Found)) (found : Found) (place : ℕ) → slice_get given place ≡ Some (Some found)
    → ((earlier : ℕ) → earlier < place → slice_get given earlier ≡ Some None) → first_found given ≡ Some found
at_place [] found place at before = absurd (cc)
at_place (None ∷ later) found zero at before = absurd (cc)
at_place (None ∷ later) found (suc p) at before = at_place later found p at (λ e lt. before (suc e) (omega arith))
at_place (Some other ∷ later) found zero at before = cc
at_place (Some other ∷ later) found (suc p) at before = absurd (let none = before 0 (omega arith) in cc)

pub first_is : (given : List (Option Found)) (found : Found) → (first_found given ≡ Some found) ↔ IsFirstFound given found
first_is given found = (has_place given found, λ first. at_place given found first.place first.at first.before)

pub answer_is : (given : List (Option Found)) (answer : Option Found) → answer ≡ first_found given
    → (found : Found) → (answer ≡ Some found) ↔ IsFirstFound given found
answer_is given answer is found = rw is (first_is given found)
