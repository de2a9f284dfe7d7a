-- Elements of lists by their places, when a list grows at its end.
use Rattle.std.proofs.Common.{◌≡◌, ℕ, suc, zero, ◌⊎◌, inl, inr, List, [], ◌∷◌, ◌++◌, map, length, refl, ap, Some}
use Rattle.std.specs.List.{slice_get}

pub place_kept : {A : Type 0} (xs ys : List A) (i : ℕ) (x : A) → slice_get xs i ≡ Some x
    → slice_get (xs ++ ys) i ≡ Some x
place_kept [] ys i x h = cc
place_kept (y ∷ xs) ys zero x h = h
place_kept (y ∷ xs) ys (suc i) x h = place_kept xs ys i x h

pub place_found : {A : Type 0} (xs : List A) (x y : A) (i : ℕ) → slice_get (xs ++ x ∷ []) i ≡ Some y
    → (slice_get xs i ≡ Some y) ⊎ ((i ≡ length xs) × (y ≡ x))
place_found [] x y zero h = inr (refl, cc)
place_found [] x y (suc i) h = cc
place_found (z ∷ xs) x y zero h = inl h
place_found (z ∷ xs) x y (suc i) h = elim (place_found xs x y i h) [ inl a ↦ inl a | inr b ↦ inr (ap suc b.0, b.1) ]

-- the last of a list that grew
pub place_last : {A : Type 0} (xs : List A) (x : A) → slice_get (xs ++ x ∷ []) (length xs) ≡ Some x
place_last [] x = refl
place_last (y ∷ xs) x = place_last xs x

pub map_at : {A B : Type 0} (f : A → B) (xs : List A) (i : ℕ) (a : A) → slice_get xs i ≡ Some a
    → slice_get (map f xs) i ≡ Some (f a)
map_at f [] i a h = cc
map_at f (x ∷ xs) zero a h = let e : x ≡ a = cc in ap (λ v. Some (f v)) e
map_at f (x ∷ xs) (suc i) a h = map_at f xs i a h

pub map_back : {A B : Type 0} (f : A → B) (xs : List A) (i : ℕ) (b : B) → slice_get (map f xs) i ≡ Some b
    → (a : A) × (slice_get xs i ≡ Some a) × (f a ≡ b)
map_back f [] i b h = cc
map_back f (x ∷ xs) zero b h = (x, refl, cc)
map_back f (x ∷ xs) (suc i) b h = map_back f xs i b h
