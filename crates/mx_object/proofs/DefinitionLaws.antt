-- What a look-up finds is what the definitions have, where no symbol is defined twice.
use Rattle.std.proofs.Common.{ℕ, ◌≡◌, ◌↔◌, true, false, List, [], ◌∷◌, Option, Some, refl}
use Rattle.std.specs.List.{list_any, Contains, AllByRecursion, IsDistinct}
use Rattle.std.specs.Map.{lookup}
use Rattle.std.proofs.lemmas.Bool.{or_parts}
use Rattle.std.proofs.lemmas.Bool.Decides.{Decides-eqb}
use Rattle.std.proofs.lemmas.Cmp.{nat_list_eq_equiv}
use Rattle.std.proofs.lemmas.Map.Views.{Contains-from_lookup, lookup-from_Contains}
use Rattle.std.proofs.lemmas.Slice.Eq.{slice_eq-Decides}
use Rattle.mx_name.specs.Names.{same_name}
use Rattle.mx_object.specs.Objects.{PlainObjectMap, symbols_of, has_twice, word_of, Defines}

same : (x y : List ℕ) → same_name x y ≡ true → x ≡ y
same x y = (slice_eq-Decides Decides-eqb x y (same_name x y) refl).0

apart : (name : List ℕ) (names : List (List ℕ)) → list_any (same_name name) names ≡ false → AllByRecursion (λ y. same_name name y ≡ false) names
apart name [] none = tt
apart name (x ∷ xs) none = let parts = or_parts (same_name name x) (list_any (same_name name) xs) none in (parts.0, apart name xs parts.1)

distinct : (names : List (List ℕ)) → has_twice names ≡ false → IsDistinct same_name names
unfolding IsDistinct
distinct [] once = tt
distinct (x ∷ xs) once =
    let parts = or_parts (list_any (same_name x) xs) (has_twice xs) once in
    (apart x xs parts.0, distinct xs parts.1)

found : (definitions : List (List ℕ × ℕ)) (symbol : List ℕ) → has_twice (symbols_of definitions) ≡ false
    → (word : ℕ) → (lookup (same_name symbol) definitions ≡ Some word) ↔ Contains definitions (symbol, word)
found definitions symbol once word =
    (Contains-from_lookup same symbol word definitions, lookup-from_Contains nat_list_eq_equiv symbol word definitions (distinct (symbols_of definitions) once))

pub answer_defines : (object : PlainObjectMap) (symbol : List ℕ) (answer : Option ℕ) → has_twice (symbols_of object.definitions) ≡ false
    → answer ≡ word_of object symbol → (word : ℕ) → (answer ≡ Some word) ↔ Defines object symbol word
answer_defines object symbol answer once is word = rw is (found object.definitions symbol once word)
