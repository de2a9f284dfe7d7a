-- Laws of tests, and of steps that may fail.
use Rattle.std.proofs.Common.{◌≡◌, ℕ, ◌==◌, Bool, true, false, not, ◌&&◌, List, [], ◌∷◌, Option, Some, None, is_none, refl}
use Rattle.std.proofs.lemmas.Bool.{eqb-true}
use Rattle.std.specs.Cmp.Lexicographic.{pointwise}
use Rattle.mx_request.specs.Steps.{◌>>=◌, when}

-- tests that hold
pub both : (a b : Bool) → a && b ≡ true → (a ≡ true) × (b ≡ true)
both true b e = (refl, e)
both false b e = cc

pub both_hold : (a b : Bool) → a ≡ true → b ≡ true → a && b ≡ true
both_hold a b p q = rw (p, q) refl

pub fails : (b : Bool) → not b ≡ true → b ≡ false
fails true e = cc
fails false e = refl

-- a fault that is none
pub no_fault : {E : Type 0} (fault : Option E) → fault ≡ None → is_none fault ≡ true
no_fault fault e = rw e refl

pub faultless : {E : Type 0} (fault : Option E) → is_none fault ≡ true → fault ≡ None
faultless None e = refl
faultless (Some x) e = cc

-- steps that succeed
pub some_is : {A : Type 0} (a b : A) → Some a ≡ Some b → a ≡ b
some_is a b e = cc

pub bind_some : {A B : Type 0} (o : Option A) (f : A → Option B) (b : B) → (o >>= f) ≡ Some b
    → (a : A) × (o ≡ Some a) × (f a ≡ Some b)
bind_some None f b e = cc
bind_some (Some a) f b e = (a, refl, e)

pub when_some : {A : Type 0} (test : Bool) (a b : A) → when test a ≡ Some b → (test ≡ true) × (a ≡ b)
when_some true a b e = (refl, cc)
when_some false a b e = cc

-- a text with the same bytes is the same
pub same_bytes : (xs ys : List ℕ) → pointwise ◌==◌ xs ys ≡ true → xs ≡ ys
same_bytes [] [] e = refl
same_bytes [] (y ∷ ys) e = cc
same_bytes (x ∷ xs) [] e = cc
same_bytes (x ∷ xs) (y ∷ ys) e =
    let f = both (x == y) (pointwise ◌==◌ xs ys) e in
    let first = eqb-true x y f.0 in let rest = same_bytes xs ys f.1 in cc
