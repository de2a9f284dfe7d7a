-- Principals and identifiers.
use Rattle.std.proofs.Common.{ℕ, ◌≡◌, ◌≤◌, ◌==◌, Bool, true, false, cond, List, [], ◌∷◌, length, None, refl, arith}
use Rattle.std.specs.Cmp.Lexicographic.{pointwise}
use Rattle.mx_name.specs.Stars.{star_is}
use Rattle.mx_name.proofs.TextLaws.{all_three, faultless_within}
use Rattle.mx_name.specs.Principals.{PlainPrincipal, is_principal_byte}
use Rattle.mx_name.specs.Identifiers.{IsAclId, Any, Literal, component_of, component_fault, id_parts}

component_within : (most : ℕ) (text : List ℕ) → 1 ≤ most → component_fault most (component_of text) ≡ None → length text ≤ most
component_within most text one e = by_test (pointwise ◌==◌ text (42 ∷ [])) refl e
  where
    by_test : (b : Bool) → pointwise ◌==◌ text (42 ∷ []) ≡ b → component_fault most (cond b Any (Literal text)) ≡ None → length text ≤ most
    by_test true h e = let same = star_is text h in rw (← same) one
    by_test false h e = faultless_within is_principal_byte most text e

-- the components of an identifier are no longer than they may be
pub written_within : (p : PlainPrincipal) → IsAclId (id_parts p) → (length p.person ≤ 22) × (length p.project ≤ 9) × (length p.tag ≤ 1)
written_within p e =
    let parts = all_three (component_fault 22 (component_of p.person)) (component_fault 9 (component_of p.project)) (component_fault 1 (component_of p.tag)) e in
    (component_within 22 p.person (omega arith) parts.0, component_within 9 p.project (omega arith) parts.1, component_within 1 p.tag (omega arith) parts.2)
