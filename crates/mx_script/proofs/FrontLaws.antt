-- Laws of fronts and of what follows them.
use Rattle.std.proofs.Common.{◌≡◌, ◌≢◌, ℕ, ◌==◌, Bool, true, false, cond, List, [], ◌∷◌, ◌++◌, Option, Some, None, Bor, refl, ap, ◌∙◌}
use Rattle.std.proofs.lemmas.Bool.{eqb-true, eq-eqb}
use Rattle.std.specs.Option.{MatchOption}
use Rattle.mx_script.specs.Fronts.{after}

after_on : (f c : ℕ) (fs cs rest : List ℕ) (test : Bool) → (f == c) ≡ test → cond test (after fs cs) None ≡ Some rest
    → (after fs cs ≡ Some rest → cs ≡ fs ++ rest) → c ∷ cs ≡ f ∷ fs ++ rest
after_on f c fs cs rest true t e on = let first = eqb-true f c t in let later = on e in cc
after_on f c fs cs rest false t e on = cc

pub after_takes : (front text rest : List ℕ) → after front text ≡ Some rest → text ≡ front ++ rest
unfolding after
after_takes [] text rest e = cc
after_takes (f ∷ fs) [] rest e = cc
after_takes (f ∷ fs) (c ∷ cs) rest e = after_on f c fs cs rest (f == c) refl e (after_takes fs cs rest)

after_again : (front rest : List ℕ) → after front (front ++ rest) ≡ Some rest
unfolding after
after_again [] rest = refl
after_again (f ∷ fs) rest = rw (eq-eqb f f refl, after_again fs rest) refl

nothing_after : (front text : List ℕ) (o : Option (List ℕ)) → after front text ≡ o → ((rest : List ℕ) → text ≢ front ++ rest)
    → o ≡ None
nothing_after front text None e other = refl
nothing_after front text (Some rest) e other = absurd (other rest (after_takes front text rest e))

-- what `strip_prefix` finds is what follows the front
pub after_found : (front text : List ℕ) (r : Option (Bor (List ℕ)))
    → MatchOption r ((rest : List ℕ) → text ≢ front ++ rest) (λ x. text ≡ front ++ x.now)
    → MatchOption r (after front text ≡ None) (λ rest. after front text ≡ Some rest.now)
after_found front text None other = nothing_after front text (after front text) refl other
after_found front text (Some x) is = ap (after front) is ∙ after_again front x.now
