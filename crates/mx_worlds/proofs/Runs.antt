-- A list of steps with one step more.
use Rattle.std.proofs.Common.{◌≡◌, ℕ, zero, suc, ◌<◌, List, [], ◌∷◌, ◌++◌, length, take, drop, refl, ap, subst, Some, None}
use Rattle.std.specs.Prelude.{slice_index_or}
use Rattle.std.specs.List.{slice_get}
use Rattle.mx_core.specs.Steps.{Can, after, CanAll, after_all}
use Rattle.mx_core.specs.World.{World}
use Rattle.mx_core.specs.declared.steps.Step.{Step}
use Rattle.mx_worlds.proofs.Seating.{at_place}

nothing_at : {A : Type 0} (a : A) → None ≡ Some a → ⊥
nothing_at a h = cc

same_at : {A : Type 0} (a b : A) → Some a ≡ Some b → a ≡ b
same_at a b h = cc

pub can_more : (w : World) (made : List Step) (step : Step) → CanAll w made → Can (after_all w made) step
    → CanAll w (made ++ step ∷ [])
can_more w [] step all can = (can, tt)
can_more w (first ∷ rest) step all can = (all.0, can_more (after w first) rest step all.1 can)

pub after_more : (w : World) (made : List Step) (step : Step)
    → after_all w (made ++ step ∷ []) ≡ after (after_all w made) step
after_more w [] step = refl
after_more w (first ∷ rest) step = after_more (after w first) rest step

pub take_next : {A : Type 0} (xs : List A) (i : ℕ) (x : A) → slice_get xs i ≡ Some x → take (suc i) xs
    ≡ take i xs ++ x ∷ []
take_next [] i x at = absurd (nothing_at x at)
take_next (y ∷ xs) zero x at = ap (λ z. z ∷ []) (same_at y x at)
take_next (y ∷ xs) (suc i) x at = ap (λ l. y ∷ l) (take_next xs i x at)

pub split_next : {A : Type 0} (xs : List A) (i : ℕ) (x : A) → slice_get xs i ≡ Some x
    → xs ≡ take i xs ++ x ∷ drop (suc i) xs
split_next [] i x at = absurd (nothing_at x at)
split_next (y ∷ xs) zero x at = ap (λ z. z ∷ xs) (same_at y x at)
split_next (y ∷ xs) (suc i) x at = ap (λ l. y ∷ l) (split_next xs i x at)

pub found_here : {A : Type 0} (steps items : List A) (i : ℕ) (x : A) → items ≡ steps → i < length items
    → x ≡ slice_index_or items i x → slice_get steps i ≡ Some x
found_here steps items i x e under is = subst (λ l. slice_get l i ≡ Some x) e (at_place items i x under is)
