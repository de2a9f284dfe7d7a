-- Helpers that an `impl` cites: a component is spelled as it was written.
use Rattle.std.proofs.Common.{ℕ, ◌≡◌, ◌==◌, eqb, Bool, true, false, cond, List, [], ◌∷◌, refl, arith}
use Rattle.std.specs.Cmp.Lexicographic.{pointwise}
use Rattle.std.proofs.lemmas.Bool.Decides.{nat_tests}
use Rattle.mx_name.specs.declared.identifiers.AclId.TheInside.{Inside}
use Rattle.mx_name.specs.Identifiers.{Any, Literal, component_of, component_text}
use Rattle.mx_name.specs.OrderLaws.{both_left, both_right}

pub star_is : (text : List ℕ) → pointwise ◌==◌ text (42 ∷ []) ≡ true → 42 ∷ [] ≡ text
star_is [] h = absurd (cc)
star_is (c ∷ []) h = let same : c ≡ 42 = grind (arith, nat_tests, both_left (eqb c 42) true h) in rw same refl
star_is (c ∷ d ∷ more) h = absurd (let no = both_right (eqb c 42) false h in cc)

pub component_takes : (text : List ℕ) → component_text (component_of text) ≡ text
component_takes text = by_test (pointwise ◌==◌ text (42 ∷ [])) refl
  where
    by_test : (b : Bool) → pointwise ◌==◌ text (42 ∷ []) ≡ b → component_text (cond b Any (Literal text)) ≡ text
    by_test true h = star_is text h
    by_test false h = refl

-- an identifier holds what was written
pub written_so : (a : Inside)
    → record {
      person = component_text (component_of a.person);
      project = component_text (component_of a.project);
      tag = component_text (component_of a.tag);
    } ≡ a
written_so a = rw (component_takes a.person, component_takes a.project, component_takes a.tag) refl
