-- What is looked up in a list of pairs is the second part of the pair that is found.
use Rattle.std.proofs.Common.{◌≡◌, Bool, true, false, cond, List, [], ◌∷◌, Some, find, option_map, refl}
use Rattle.std.specs.Map.{lookup}

pub lookup_found : {K X : Type 0} (test : K → Bool) (pairs : List (K × X)) → lookup test pairs ≡ option_map (λ pair. pair.1) (find (λ (pair : K × X). test pair.0) pairs)
lookup_found test [] = refl
lookup_found {K = K} {X = X} test (pair ∷ pairs) = by (test pair.0) (lookup_found test pairs)
  where
    by : (b : Bool) → lookup test pairs ≡ option_map (λ pair. pair.1) (find (λ (pair : K × X). test pair.0) pairs)
        → cond b (Some pair.1) (lookup test pairs) ≡ option_map (λ pair. pair.1) (cond b (Some pair) (find (λ (pair : K × X). test pair.0) pairs))
    by true rest = refl
    by false rest = rest
