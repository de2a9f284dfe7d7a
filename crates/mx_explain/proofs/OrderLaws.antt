-- Laws on the order that a number chooses.
use Rattle.std.proofs.Common.{◌≡◌, ℕ, zero, suc, ◌+◌, ◌<◌, List, [], ◌∷◌, ◌++◌, length, map, get_or, take, Option, sym, ap, ◌∙◌, arith, append_assoc}
use Rattle.std.proofs.lemmas.List.{map_more}
use Rattle.std.proofs.lemmas.List.Elements.{filter_map-append}
use Rattle.std.specs.List.{filter_map}
use Rattle.mx_explain.specs.Orders.{next_state, chosen, choices}

-- one choice more is made
choice_on : (order whole : List ℕ) (processes state count left : ℕ) → order ++ choices processes state count ≡ whole → count ≡ left + 1
    → (order ++ chosen processes (next_state state) ∷ []) ++ choices processes (next_state state) left ≡ whole
choice_on order whole processes state zero left e more = absurd (omega (arith, more))
choice_on order whole processes state (suc count) left e more =
    let same : count ≡ left = omega (arith, more) in
    append_assoc order (chosen processes (next_state state) ∷ []) (choices processes (next_state state) left)
    ∙ (ap (λ n. order ++ chosen processes (next_state state) ∷ choices processes (next_state state) n) (sym same) ∙ e)

pub choice_more : (order order' whole : List ℕ) (processes state state' x count left : ℕ) → order ++ choices processes state count ≡ whole
    → count ≡ left + 1 → state' ≡ next_state state → x ≡ chosen processes state' → order' ≡ order ++ x ∷ []
    → order' ++ choices processes state' left ≡ whole
choice_more order order' whole processes state state' x count left e more s chose items =
    let now : x ≡ chosen processes (next_state state) = chose ∙ ap (λ t. chosen processes t) s in
    let all : order' ≡ order ++ chosen processes (next_state state) ∷ [] = items ∙ ap (λ y. order ++ y ∷ []) now in
    rw (all, s) (choice_on order whole processes state count left e more)

-- one word more was read
pub named_more : {X : Type 0} (f : X → List ℕ) (h : List ℕ → Option ℕ) (xs : List X) (i : ℕ) (x : X) (text order order' : List ℕ) → i < length xs
    → x ≡ get_or xs i x → order ≡ filter_map h (map f (take i xs)) → text ≡ f x → order' ≡ order ++ filter_map h (text ∷ [])
    → order' ≡ filter_map h (map f (take (i + 1) xs))
named_more f h xs i x text order order' within is before spelled after =
    let last : map f (take (i + 1) xs) ≡ map f (take i xs) ++ f x ∷ [] =
    map_more f xs i x within ∙ ap (λ y. map f (take i xs) ++ f y ∷ []) (sym is) in
    after ∙ ap (λ t. order ++ filter_map h (t ∷ [])) spelled ∙ ap (λ l. l ++ filter_map h (f x ∷ [])) before
    ∙ sym (ap (λ l. filter_map h l) last ∙ filter_map-append h (map f (take i xs)) (f x ∷ []))
