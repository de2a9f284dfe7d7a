-- Laws of the look-up of a word: only a kind whose word is as long can have it.
use Rattle.std.proofs.Common.{◌≡◌, ℕ, ◌==◌, Bool, true, false, cond, List, [], ◌∷◌, length, Some, refl, arith}
use Rattle.std.specs.List.{find, filter}
use Rattle.std.specs.Cmp.Lexicographic.{pointwise}
use Rattle.mx_request.specs.declared.reading.kinds.Kind.{Kind}
use Rattle.mx_request.specs.Kinds.{kind_of, kind_word, all_kinds}
use Rattle.mx_request.proofs.StepLaws.{same_bytes}

-- the kinds whose word has so many bytes
abbrev pub of_length : ℕ → List Kind
of_length count = filter (λ kind. count == length (kind_word kind)) all_kinds

other_length : (xs ys : List ℕ) → (length xs == length ys) ≡ false → pointwise ◌==◌ xs ys ≡ false
other_length xs ys e = by_test (pointwise ◌==◌ xs ys) refl
  where
    by_test : (b : Bool) → pointwise ◌==◌ xs ys ≡ b → b ≡ false
    by_test true t = let same : xs ≡ ys = same_bytes xs ys t in grind arith
    by_test false t = refl

find_left : (p q : Kind → Bool) → ((kind : Kind) → q kind ≡ false → p kind ≡ false) → (all : List Kind) → find p (filter q all) ≡ find p all
find_left p q apart [] = refl
find_left p q apart (x ∷ xs) = by_test (q x) refl (find_left p q apart xs)
  where
    by_test : (b : Bool) → q x ≡ b → find p (filter q xs) ≡ find p xs
        → find p (cond b (x ∷ filter q xs) (filter q xs)) ≡ cond (p x) (Some x) (find p xs)
    by_test true t ih = rw ih refl
    by_test false t ih = rw (apart x t) ih

pub as_long : (word : List ℕ) (count : ℕ) → length word ≡ count
    → find (λ kind. pointwise ◌==◌ word (kind_word kind)) (of_length count) ≡ kind_of word
as_long word count e =
    let has_word : Kind → Bool = λ kind. pointwise ◌==◌ word (kind_word kind) in
    let is_as_long : Kind → Bool = λ kind. length word == length (kind_word kind) in
    rw (← e) (find_left has_word is_as_long (λ kind. other_length word (kind_word kind)) all_kinds)
