-- Names behind blanks are found again between them.
use Rattle.std.proofs.Common.{ℕ, ◌≡◌, ◌==◌, Bool, true, false, cond, ◌&&◌, not, List, [], ◌∷◌, ◌++◌, None, append-nil, refl, ap, ◌∙◌}
use Rattle.std.specs.List.{list_all, slice_split, onto_first}
use Rattle.mx_name.specs.Names.{is_free, name_fault}
use Rattle.mx_name.specs.OrderLaws.{both_left, both_right}
use Rattle.mx_name.proofs.TextLaws.{name_is_free}
use Rattle.mx_hier.specs.NameTexts.{behind_blanks, between_blanks}

-- a text without a blank is one part, and ends at the next blank
alone : (name : List ℕ) → is_free 32 name ≡ true → slice_split (λ c. c == 32) name ≡ name ∷ []
alone [] free = refl
alone (c ∷ cs) free = by (c == 32) free (alone cs)
  where
    by : (test : Bool) → (not test && is_free 32 cs) ≡ true → (is_free 32 cs ≡ true → slice_split (λ c. c == 32) cs ≡ cs ∷ [])
        → cond test ([] ∷ slice_split (λ c. c == 32) cs) (onto_first c (slice_split (λ c. c == 32) cs)) ≡ (c ∷ cs) ∷ []
    by true free more = absurd (cc)
    by false free more = rw (more free) refl

front : (name more : List ℕ) → is_free 32 name ≡ true → slice_split (λ c. c == 32) (name ++ 32 ∷ more) ≡ name ∷ slice_split (λ c. c == 32) more
front [] more free = refl
front (c ∷ cs) more free = by (c == 32) free (front cs more)
  where
    by : (test : Bool) → (not test && is_free 32 cs) ≡ true
        → (is_free 32 cs ≡ true → slice_split (λ c. c == 32) (cs ++ 32 ∷ more) ≡ cs ∷ slice_split (λ c. c == 32) more)
        → cond test ([] ∷ slice_split (λ c. c == 32) (cs ++ 32 ∷ more)) (onto_first c (slice_split (λ c. c == 32) (cs ++ 32 ∷ more)))
        ≡ (c ∷ cs) ∷ slice_split (λ c. c == 32) more
    by true free ih = absurd (cc)
    by false free ih = rw (ih free) refl

split_again : (name : List ℕ) (names : List (List ℕ)) → (is_free 32 name && list_all (is_free 32) names) ≡ true
    → slice_split (λ c. c == 32) (name ++ behind_blanks names) ≡ name ∷ names
split_again name [] free = rw (append-nil name) (alone name (both_left (is_free 32 name) true free))
split_again name (next ∷ names) free =
    front name (next ++ behind_blanks names) (both_left (is_free 32 name) (is_free 32 next && list_all (is_free 32) names) free)
    ∙ ap (λ rest. name ∷ rest) (split_again next names (both_right (is_free 32 name) (is_free 32 next && list_all (is_free 32) names) free))

pub behind_again : (names : List (List ℕ)) → list_all (is_free 32) names ≡ true → between_blanks (behind_blanks names) ≡ names
behind_again [] free = refl
behind_again (name ∷ names) free = split_again name names free

pub name_unblanked : (name : List ℕ) → name_fault name ≡ None → is_free 32 name ≡ true
name_unblanked name e = name_is_free 32 name refl e
