-- What a request comes to that gives back the path of a directory.
use Rattle.std.proofs.Common.{◌≡◌, ℕ, true, List, Option, None, Some, Result, Ok, Err, refl, sym, ap, subst, ◌∙◌}
use Rattle.mx_hier.specs.declared.refusals.Refusal.{Refusal}
use Rattle.mx_hier.specs.declared.refusals.HierError.{HierError}
use Rattle.mx_hier.specs.declared.refusals.HierError.TheVariants.{Refused, Memory}
use Rattle.mx_hier.specs.Branches.{Hierarchy}
use Rattle.mx_hier.specs.Callers.{Caller}
use Rattle.mx_hier.specs.ChangeWorkingDirectory.{directory_refusals, directory_reached, directory}
use Rattle.mx_hier.specs.Rules.{first_of, onward, unless, Tells}
use Rattle.mx_hier.specs.Walks.{resolved, reached}

-- what is reached and not refused, and what is refused, whatever is given back
module _ {A B : Type 0} (a : A) (b : B) (refusal : ℕ → Option Refusal) where
  unrefused : (why : Option Refusal) (value : A) → unless why a ≡ Ok value → unless why b ≡ Ok b
  unrefused None value e = refl
  unrefused (Some why) value e = absurd (cc)

  reached_unrefused : (r : Result ℕ Refusal) (value : A) → onward r (λ uid. unless (refusal uid) a) ≡ Ok value → onward r (λ uid. unless (refusal uid) b) ≡ Ok b
  reached_unrefused (Ok uid) value e = unrefused (refusal uid) value e
  reached_unrefused (Err why) value e = absurd (cc)

  refused_alike : (found : Option Refusal) (why : Refusal) → unless found a ≡ Err why → unless found b ≡ Err why
  refused_alike None why e = absurd (cc)
  refused_alike (Some other) why e = let same : other ≡ why = cc in ap (λ w. Err w) same

  reached_refused : (r : Result ℕ Refusal) (error : HierError) → Tells (onward r (λ uid. unless (refusal uid) a)) (Err error)
      → Tells (onward r (λ uid. unless (refusal uid) b)) (Err error)
  reached_refused (Ok uid) (Refused why) e = refused_alike (refusal uid) why e
  reached_refused (Err other) (Refused why) e = let same : other ≡ why = cc in ap (λ w. Err w) same
  reached_refused r Memory e = tt

pub directory_told : (h : Hierarchy) (who : Caller) (pathname : List ℕ) (path names : List (List ℕ)) (done : Unit {0}) → resolved who pathname ≡ Ok path
    → names ≡ path → directory_reached h who.subject names ≡ Ok done → directory h who pathname ≡ Ok path
directory_told h who pathname path names done is same e =
    ap (λ r. onward r (λ path. onward (reached h who.subject true path) (λ uid. unless (first_of (directory_refusals h who.subject uid)) path))) is
    ∙ reached_unrefused tt path (λ uid. first_of (directory_refusals h who.subject uid)) (reached h who.subject true path) done
    (ap (directory_reached h who.subject) (sym same) ∙ e)

pub directory_refused : (h : Hierarchy) (who : Caller) (pathname : List ℕ) (path names : List (List ℕ)) (error : HierError) → resolved who pathname ≡ Ok path
    → names ≡ path → Tells (directory_reached h who.subject names) (Err error) → Tells (directory h who pathname) (Err error)
directory_refused h who pathname path names error is same e =
    subst (λ (meant : Result (List (List ℕ)) Refusal). Tells meant (Err error))
    (sym (ap (λ r. onward r (λ path. onward (reached h who.subject true path) (λ uid. unless (first_of (directory_refusals h who.subject uid)) path))) is))
    (reached_refused tt path (λ uid. first_of (directory_refusals h who.subject uid)) (reached h who.subject true path) error
    (subst (λ (names : List (List ℕ)). Tells (directory_reached h who.subject names) (Err error)) same e))
