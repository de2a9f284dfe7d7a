-- The length of a path's text, and what its parts keep of its names.
use Rattle.std.proofs.Common.{ℕ, ◌≡◌, ◌+◌, ◌-◌, ◌≤◌, Bool, true, false, cond, ltb, List, [], ◌∷◌, ◌++◌, take, length, None, Some, zero, suc, refl, ap, ◌∙◌, arith, length-append}
use Rattle.std.specs.List.{slice_split, onto_first}
use Rattle.std.proofs.lemmas.Bool.Decides.{nat_tests}
use Rattle.mx_name.proofs.FirstFaults.{or_left, or_right, or_none}
use Rattle.mx_name.specs.declared.names.NameError.TheVariants.{TooLong}
use Rattle.mx_name.specs.declared.paths.PathError.TheVariants as path_error
use Rattle.mx_name.specs.Names.{name_fault}
use Rattle.mx_name.specs.Pathnames.{names_of, first_fault, climbs, is_absolute, pathname_fault}
use Rattle.mx_name.specs.Paths.{IsPath, path_text, names_text, kept, resolved, resolve_fault}

pub split_length : (p : ℕ → Bool) (text : List ℕ) → length (names_text (slice_split p text)) ≡ 1 + length text
split_length p [] = refl
split_length p (c ∷ cs) = by_test (p c) (slice_split p cs) (split_length p cs)
  where
    by_test : (b : Bool) (rest : List (List ℕ)) → length (names_text rest) ≡ 1 + length cs → length (names_text (cond b ([] ∷ rest) (onto_first c rest))) ≡ 1 + length (c ∷ cs)
    by_test true rest e = grind (arith, e)
    by_test false [] e = grind (arith, e)
    by_test false (part ∷ parts) e = grind (arith, e)

pub names_text-append : (xs ys : List (List ℕ)) → length (names_text (xs ++ ys)) ≡ length (names_text xs) + length (names_text ys)
names_text-append [] ys = omega arith
names_text-append (x ∷ xs) ys = omega (arith, names_text-append xs ys, length-append x (names_text (xs ++ ys)), length-append x (names_text xs))

longer : (xs : List (List ℕ)) → ltb 168 (length (path_text xs)) ≡ ltb 168 (length (names_text xs))
longer [] = refl
longer (x ∷ xs) = refl

pub too_long : (base : List (List ℕ)) (text : List ℕ) → ltb 168 (length (path_text (resolved base text))) ≡ ltb 168 (length (names_text (kept base text)) + length (names_text (names_of text)))
too_long base text = longer (resolved base text) ∙ ap (ltb 168) (names_text-append (kept base text) (names_of text))

take_within : (n : ℕ) (xs : List (List ℕ)) → length (names_text (take n xs)) ≤ length (names_text xs)
take_within zero xs = omega arith
take_within (suc n) [] = omega arith
take_within (suc n) (x ∷ xs) = omega (arith, take_within n xs, length-append x (names_text (take n xs)), length-append x (names_text xs))

base_within : (xs : List (List ℕ)) → length (path_text xs) ≤ 168 → length (names_text xs) ≤ 168
base_within [] h = omega arith
base_within (x ∷ xs) h = h

pub kept_within : (base : List (List ℕ)) (text : List ℕ) → IsPath base → length (names_text (kept base text)) ≤ 168
kept_within base text path = by_test (is_absolute text)
  where
    by_test : (b : Bool) → length (names_text (cond b [] (take (length base - climbs text) base))) ≤ 168
    by_test true = omega arith
    by_test false = omega (arith, take_within (length base - climbs text) base, base_within base path.within)

fit_append : (xs ys : List (List ℕ)) → first_fault xs ≡ None → first_fault ys ≡ None → first_fault (xs ++ ys) ≡ None
fit_append [] ys e f = f
fit_append (x ∷ xs) ys e f = or_none (name_fault x) (first_fault (xs ++ ys)) (or_left (name_fault x) (first_fault xs) e) (fit_append xs ys (or_right (name_fault x) (first_fault xs) e) f)

-- both parts of faultless names are so
pub fit_front : (xs ys : List (List ℕ)) → first_fault (xs ++ ys) ≡ None → first_fault xs ≡ None
fit_front [] ys e = refl
fit_front (x ∷ xs) ys e = or_none (name_fault x) (first_fault xs) (or_left (name_fault x) (first_fault (xs ++ ys)) e) (fit_front xs ys (or_right (name_fault x) (first_fault (xs ++ ys)) e))

pub fit_rest : (xs ys : List (List ℕ)) → first_fault (xs ++ ys) ≡ None → first_fault ys ≡ None
fit_rest [] ys e = e
fit_rest (x ∷ xs) ys e = fit_rest xs ys (or_right (name_fault x) (first_fault (xs ++ ys)) e)

pub fit_last : (xs : List (List ℕ)) (y : List ℕ) → first_fault (xs ++ y ∷ []) ≡ None → name_fault y ≡ None
fit_last xs y e = or_left (name_fault y) None (fit_rest xs (y ∷ []) e)

fit_take : (n : ℕ) (xs : List (List ℕ)) → first_fault xs ≡ None → first_fault (take n xs) ≡ None
fit_take zero xs e = refl
fit_take (suc n) [] e = refl
fit_take (suc n) (x ∷ xs) e = or_none (name_fault x) (first_fault (take n xs)) (or_left (name_fault x) (first_fault xs) e) (fit_take n xs (or_right (name_fault x) (first_fault xs) e))

fit_kept : (base : List (List ℕ)) (text : List ℕ) → first_fault base ≡ None → first_fault (kept base text) ≡ None
fit_kept base text e = by_test (is_absolute text)
  where
    by_test : (b : Bool) → first_fault (cond b [] (take (length base - climbs text) base)) ≡ None
    by_test true = refl
    by_test false = fit_take (length base - climbs text) base e

pub pathname_names : (text : List ℕ) → pathname_fault text ≡ None → first_fault (names_of text) ≡ None
pathname_names text = by_test (ltb 168 (length text))
  where
    by_test : (b : Bool) → cond b (Some TooLong) (first_fault (names_of text)) ≡ None → first_fault (names_of text) ≡ None
    by_test true e = absurd (cc)
    by_test false e = e

pub resolved_path : (base : List (List ℕ)) (text : List ℕ) → IsPath base → pathname_fault text ≡ None → resolve_fault base text ≡ None → IsPath (resolved base text)
resolved_path base text path e f = record {
  within = by_test (ltb (length base) (climbs text)) (ltb 168 (length (path_text (resolved base text)))) refl f;
  names_fit = fit_append (kept base text) (names_of text) (fit_kept base text path.names_fit) (pathname_names text e);
}
  where
    by_test : (b d : Bool) → ltb 168 (length (path_text (resolved base text))) ≡ d → cond b (Some path_error.AboveRoot) (cond d (Some path_error.TooLong) None) ≡ None → length (path_text (resolved base text)) ≤ 168
    by_test true d g e = absurd (cc)
    by_test false true g e = absurd (cc)
    by_test false false g e = grind (arith, nat_tests, g)
