-- A text has at least one part.
use Rattle.std.proofs.Common.{ℕ, ◌≡◌, Bool, true, false, cond, List, [], ◌∷◌, Err, refl}
use Rattle.std.specs.List.{slice_split, onto_first}
use Rattle.mx_name.specs.declared.names.NameError.TheVariants.{BadChar}
use Rattle.mx_name.specs.Principals.{three}

pub some_part : (p : ℕ → Bool) (text : List ℕ) → (part : List ℕ) × ((parts : List (List ℕ)) × (slice_split p text ≡ part ∷ parts))
some_part p [] = ([], ([], refl))
some_part p (c ∷ cs) = by_test (p c) (slice_split p cs)
  where
    by_test : (b : Bool) (rest : List (List ℕ)) → (part : List ℕ) × ((parts : List (List ℕ)) × (cond b ([] ∷ rest) (onto_first c rest) ≡ part ∷ parts))
    by_test true rest = ([], (rest, refl))
    by_test false [] = (c ∷ [], ([], refl))
    by_test false (part ∷ parts) = (c ∷ part, (parts, refl))

pub no_fourth : (p : ℕ → Bool) (a b c text : List ℕ) → three (a ∷ b ∷ c ∷ slice_split p text) ≡ Err BadChar
no_fourth p a b c text = let some = some_part p text in rw some.1.1 refl
