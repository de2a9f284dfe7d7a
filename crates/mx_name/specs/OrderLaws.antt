-- Helpers that an `impl` cites: the order of identifiers is total, and its ties are equal identifiers.
use Rattle.std.proofs.Common.{ℕ, ◌≡◌, Bool, true, false, ◌&&◌, ◌==◌, List, [], ◌∷◌, refl, ap, sym, subst, ◌∙◌}
use Rattle.std.specs.Ordering.{nat_cmp, ordering_then, is_eq, eq_by_cmp, on}
use Rattle.std.specs.Bool.{Decides}
use Rattle.std.specs.Cmp.{IsTotalOrder}
use Rattle.std.specs.Cmp.Lexicographic.{pointwise, slice_cmp, texts_ties, nat_list_cmp_total, same_text}
use Rattle.std.specs.declared.cmp.Ordering.{Ordering}
use Rattle.std.specs.declared.cmp.Ordering.TheVariants.{Less, Equal, Greater}
use Rattle.std.proofs.lemmas.Cmp.{nat_cmp_total, on_total, then_total, tied_itself}
use Rattle.mx_name.specs.Identifiers.{Component, Any, Literal, PlainAclId, id_rank}
use Rattle.mx_name.specs.IdentifierOrder.{component_cmp, components_cmp, id_cmp}

-- the parts of an `&&`
pub both_left : (a b : Bool) → (a && b) ≡ true → a ≡ true
both_left true b h = refl
both_left false b h = h

pub both_right : (a b : Bool) → (a && b) ≡ true → b ≡ true
both_right true b h = h
both_right false b h = absurd (cc)

pub and_false : (b : Bool) → (b && false) ≡ false
and_false true = refl
and_false false = refl

-- components as texts: nothing for `*`, and a literal behind a byte
abbrev code : Component → List ℕ
code Any = []
code (Literal text) = 0 ∷ text

coded : (x y : Component) → on code (slice_cmp nat_cmp) x y ≡ component_cmp x y
coded Any Any = refl
coded Any (Literal b) = refl
coded (Literal a) Any = refl
coded (Literal a) (Literal b) = refl

component_total : IsTotalOrder component_cmp
component_total =
    let path : on code (slice_cmp nat_cmp) ≡ component_cmp = λ i x y. coded x y i in
    subst IsTotalOrder path (on_total code nat_list_cmp_total)

pub id_total : IsTotalOrder id_cmp
id_total =
    then_total (on_total id_rank nat_cmp_total)
    (then_total (on_total (λ (x : PlainAclId). x.person) component_total)
    (then_total (on_total (λ (x : PlainAclId). x.project) component_total)
    (on_total (λ (x : PlainAclId). x.tag) component_total)))

abbrev same_component : Component → Component → Bool
same_component x y = pointwise ◌==◌ (code x) (code y)

abbrev same_id : PlainAclId → PlainAclId → Bool
same_id x y = same_component x.person y.person && (same_component x.project y.project && same_component x.tag y.tag)

is_eq_then : (r s : Ordering) → is_eq (ordering_then r s) ≡ (is_eq r && is_eq s)
is_eq_then Less s = refl
is_eq_then Equal s = refl
is_eq_then Greater s = refl

component_ties : (x y : Component) → same_component x y ≡ is_eq (component_cmp x y)
component_ties x y = texts_ties (code x) (code y) ∙ ap is_eq (coded x y)

components_ties : (x y : PlainAclId) → same_id x y ≡ is_eq (components_cmp x y)
components_ties x y =
    rw (
      is_eq_then (component_cmp x.person y.person)
          (ordering_then (component_cmp x.project y.project) (component_cmp x.tag y.tag)),
      is_eq_then (component_cmp x.project y.project) (component_cmp x.tag y.tag),
      ← component_ties x.person y.person,
      ← component_ties x.project y.project,
      ← component_ties x.tag y.tag,
    ) refl

component_same : (x y : Component) → same_component x y ≡ true → x ≡ y
component_same Any Any e = refl
component_same Any (Literal b) e = absurd (cc)
component_same (Literal a) Any e = absurd (cc)
component_same (Literal a) (Literal b) e = ap Literal (same_text a b (sym e))

-- identifiers that the order does not tell apart are the same
pub id_equal : (x y : PlainAclId) → id_cmp x y ≡ Equal → x ≡ y
id_equal x y e =
    let tied : is_eq (ordering_then (nat_cmp (id_rank x) (id_rank y)) (components_cmp x y)) ≡ true = ap is_eq e in
    let parts : (is_eq (nat_cmp (id_rank x) (id_rank y)) && is_eq (components_cmp x y)) ≡ true =
    sym (is_eq_then (nat_cmp (id_rank x) (id_rank y)) (components_cmp x y)) ∙ tied in
    let same : same_id x y ≡ true =
    components_ties x y ∙ both_right (is_eq (nat_cmp (id_rank x) (id_rank y))) (is_eq (components_cmp x y)) parts in
    let a = same_component x.person y.person in
    let b = same_component x.project y.project in
    let c = same_component x.tag y.tag in
    let rest = both_right a (b && c) same in
    let person = component_same x.person y.person (both_left a (b && c) same) in
    let project = component_same x.project y.project (both_left b c rest) in
    let tag = component_same x.tag y.tag (both_right b c rest) in
    λ i. record { person = person i; project = project i; tag = tag i }

-- so the order decides which are the same
pub id_decides : (x y : PlainAclId) → Decides (eq_by_cmp id_cmp x y) (x ≡ y)
id_decides x y = (
  λ e. id_equal x y (is_tied (id_cmp x y) e),
  λ same. subst (λ (z : PlainAclId). eq_by_cmp id_cmp x z ≡ true) same (ap is_eq (tied_itself id_total x)),
)
  where
    is_tied : (o : Ordering) → is_eq o ≡ true → o ≡ Equal
    is_tied Less e = absurd (cc)
    is_tied Equal e = refl
    is_tied Greater e = absurd (cc)
