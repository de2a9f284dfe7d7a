-- A function on a list of eight, element by element.
use Rattle.std.proofs.Common.{◌≡◌, List, [], ◌∷◌, length, map, get_or, refl, ap}

eight : {X : Type 0} (xs : List X) (d0 d1 d2 d3 d4 d5 d6 d7 : X) → length xs ≡ 8
    → xs ≡ get_or xs 0 d0 ∷ get_or xs 1 d1 ∷ get_or xs 2 d2 ∷ get_or xs 3 d3 ∷ get_or xs 4 d4 ∷ get_or xs 5 d5 ∷ get_or xs 6 d6 ∷ get_or xs 7 d7 ∷ []
eight (x0 ∷ x1 ∷ x2 ∷ x3 ∷ x4 ∷ x5 ∷ x6 ∷ x7 ∷ []) d0 d1 d2 d3 d4 d5 d6 d7 e = refl
eight xs d0 d1 d2 d3 d4 d5 d6 d7 e = cc

pub mapped_eight : {X Y : Type 0} (f : X → Y) (xs : List X) (d0 d1 d2 d3 d4 d5 d6 d7 : X) → length xs ≡ 8
    → map f xs ≡ f (get_or xs 0 d0) ∷ f (get_or xs 1 d1) ∷ f (get_or xs 2 d2) ∷ f (get_or xs 3 d3) ∷ f (get_or xs 4 d4) ∷ f (get_or xs 5 d5) ∷ f (get_or xs 6 d6) ∷ f (get_or xs 7 d7) ∷ []
mapped_eight f xs d0 d1 d2 d3 d4 d5 d6 d7 e = ap (map f) (eight xs d0 d1 d2 d3 d4 d5 d6 d7 e)
