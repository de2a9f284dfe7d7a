-- Two identifiers that match one principal never have equal rank.
use Rattle.std.proofs.Common.{ℕ, ◌≡◌, ◌+◌, ◌*◌, ◌≤◌, true, ◌&&◌, List, refl, ap, sym, ◌∙◌, arith}
use Rattle.std.specs.Cmp.Lexicographic.{same_text}
use Rattle.mx_name.specs.Identifiers.{Component, Any, Literal, PlainAclId, component_matches, id_matches, id_rank, weight}
use Rattle.mx_name.specs.OrderLaws.{both_left, both_right}
use Rattle.mx_name.specs.Principals.{PlainPrincipal}

weighed : (most : ℕ) (x : Component) → weight most x ≡ most * weight 1 x
weighed most Any = omega arith
weighed most (Literal own) = omega arith

one : (x : Component) → weight 1 x ≤ 1
one Any = omega arith
one (Literal own) = omega arith

same_match : (x y : Component) (text : List ℕ) → component_matches x text ≡ true → component_matches y text ≡ true → weight 1 x ≡ weight 1 y → x ≡ y
same_match Any Any text e f w = refl
same_match Any (Literal b) text e f w = absurd (omega arith)
same_match (Literal a) Any text e f w = absurd (omega arith)
same_match (Literal a) (Literal b) text e f w = ap Literal (same_text a text (sym e) ∙ sym (same_text b text (sym f)))

weights : (a b c d e f : ℕ) → a ≤ 1 → b ≤ 1 → c ≤ 1 → d ≤ 1 → e ≤ 1 → f ≤ 1 → 4 * a + 2 * b + 1 * c ≡ 4 * d + 2 * e + 1 * f → (a ≡ d) × (b ≡ e) × (c ≡ f)
weights a b c d e f p q r s t u same = (omega arith, omega arith, omega arith)

pub same_rank_same_id : (x y : PlainAclId) (who : PlainPrincipal) → id_matches x who ≡ true → id_matches y who ≡ true → id_rank x ≡ id_rank y → x ≡ y
same_rank_same_id x y who e f rank =
    let a = λ (z : PlainAclId) (m : id_matches z who ≡ true). both_left (component_matches z.person who.person && component_matches z.project who.project) (component_matches z.tag who.tag) m in
    let tags = λ (z : PlainAclId) (m : id_matches z who ≡ true). both_right (component_matches z.person who.person && component_matches z.project who.project) (component_matches z.tag who.tag) m in
    let persons = λ (z : PlainAclId) (m : id_matches z who ≡ true). both_left (component_matches z.person who.person) (component_matches z.project who.project) (a z m) in
    let projects = λ (z : PlainAclId) (m : id_matches z who ≡ true). both_right (component_matches z.person who.person) (component_matches z.project who.project) (a z m) in
    let w = weights (weight 1 x.person) (weight 1 x.project) (weight 1 x.tag) (weight 1 y.person) (weight 1 y.project) (weight 1 y.tag)
    (one x.person) (one x.project) (one x.tag) (one y.person) (one y.project) (one y.tag)
    (omega (arith, weighed 4 x.person, weighed 2 x.project, weighed 1 x.tag, weighed 4 y.person, weighed 2 y.project, weighed 1 y.tag, rank)) in
    let person = same_match x.person y.person who.person (persons x e) (persons y f) w.0 in
    let project = same_match x.project y.project who.project (projects x e) (projects y f) w.1 in
    let tag = same_match x.tag y.tag who.tag (tags x e) (tags y f) w.2 in
    λ i. record { person = person i; project = project i; tag = tag i }
