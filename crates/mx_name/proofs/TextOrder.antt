-- The order of identifiers of equal rank is the byte order of their texts.
use Rattle.std.proofs.Common.{ℕ, ◌≡◌, ◌<◌, true, List, [], ◌∷◌, ◌++◌, None, refl, ap, sym, ◌∙◌, arith}
use Rattle.std.specs.List.{list_all}
use Rattle.std.specs.Ordering.{nat_cmp, ordering_then}
use Rattle.std.specs.Cmp.Lexicographic.{slice_cmp}
use Rattle.std.specs.declared.cmp.Ordering.{Ordering}
use Rattle.std.specs.declared.cmp.Ordering.TheVariants.{Less, Equal, Greater}
use Rattle.std.proofs.lemmas.Bool.Decides.{nat_tests}
use Rattle.mx_name.specs.Principals.{PlainPrincipal, is_principal_byte}
use Rattle.mx_name.specs.Stars.{component_takes}
use Rattle.mx_name.specs.Identifiers.{Component, Any, Literal, PlainAclId, IsAclId, component_of, component_text, component_fault, id_parts, acl_id_text}
use Rattle.mx_name.specs.IdentifierOrder.{component_cmp, components_cmp}
use Rattle.mx_name.specs.OrderLaws.{both_left, both_right}
use Rattle.mx_name.proofs.TextLaws.{faultless_fits, all_three}

assoc : (r s t : Ordering) → ordering_then r (ordering_then s t) ≡ ordering_then (ordering_then r s) t
assoc Less s t = refl
assoc Equal s t = refl
assoc Greater s t = refl

-- a dot and a star are below every byte of a literal
below_literal : (low c : ℕ) → low < 48 → is_principal_byte c ≡ true → nat_cmp low c ≡ Less
below_literal low c h e = grind (arith, nat_tests, e)

above_literal : (low c : ℕ) → low < 48 → is_principal_byte c ≡ true → nat_cmp c low ≡ Greater
above_literal low c h e = grind (arith, nat_tests, e)

byte_of : (c : ℕ) (cs : List ℕ) → list_all is_principal_byte (c ∷ cs) ≡ true → is_principal_byte c ≡ true
byte_of c cs e = both_left (is_principal_byte c) (list_all is_principal_byte cs) e

bytes_of : (c : ℕ) (cs : List ℕ) → list_all is_principal_byte (c ∷ cs) ≡ true → list_all is_principal_byte cs ≡ true
bytes_of c cs e = both_right (is_principal_byte c) (list_all is_principal_byte cs) e

-- literals before a dot are compared before what follows it
literals : (xs ys more others : List ℕ) → list_all is_principal_byte xs ≡ true → list_all is_principal_byte ys ≡ true
    → slice_cmp nat_cmp (xs ++ 46 ∷ more) (ys ++ 46 ∷ others) ≡ ordering_then (slice_cmp nat_cmp xs ys) (slice_cmp nat_cmp more others)
literals [] [] more others e f = refl
literals [] (d ∷ ds) more others e f = rw (below_literal 46 d (omega arith) (byte_of d ds f)) refl
literals (c ∷ cs) [] more others e f = rw (above_literal 46 c (omega arith) (byte_of c cs e)) refl
literals (c ∷ cs) (d ∷ ds) more others e f =
    ap (ordering_then (nat_cmp c d)) (literals cs ds more others (bytes_of c cs e) (bytes_of d ds f))
    ∙ assoc (nat_cmp c d) (slice_cmp nat_cmp cs ds) (slice_cmp nat_cmp more others)

before_dot : (most : ℕ) (x y : Component) (more others : List ℕ) → component_fault most x ≡ None → component_fault most y ≡ None
    → slice_cmp nat_cmp (component_text x ++ 46 ∷ more) (component_text y ++ 46 ∷ others) ≡ ordering_then (component_cmp x y) (slice_cmp nat_cmp more others)
before_dot most Any Any more others e f = refl
before_dot most Any (Literal []) more others e f = absurd (cc)
before_dot most Any (Literal (d ∷ ds)) more others e f = rw (below_literal 42 d (omega arith) (byte_of d ds (faultless_fits is_principal_byte most (d ∷ ds) f))) refl
before_dot most (Literal []) Any more others e f = absurd (cc)
before_dot most (Literal (c ∷ cs)) Any more others e f = rw (above_literal 42 c (omega arith) (byte_of c cs (faultless_fits is_principal_byte most (c ∷ cs) e))) refl
before_dot most (Literal xs) (Literal ys) more others e f =
    literals xs ys more others (faultless_fits is_principal_byte most xs e) (faultless_fits is_principal_byte most ys f)

at_end : (most : ℕ) (x y : Component) → component_fault most x ≡ None → component_fault most y ≡ None → slice_cmp nat_cmp (component_text x) (component_text y) ≡ component_cmp x y
at_end most Any Any e f = refl
at_end most Any (Literal []) e f = absurd (cc)
at_end most Any (Literal (d ∷ ds)) e f = rw (below_literal 42 d (omega arith) (byte_of d ds (faultless_fits is_principal_byte most (d ∷ ds) f))) refl
at_end most (Literal []) Any e f = absurd (cc)
at_end most (Literal (c ∷ cs)) Any e f = rw (above_literal 42 c (omega arith) (byte_of c cs (faultless_fits is_principal_byte most (c ∷ cs) e))) refl
at_end most (Literal xs) (Literal ys) e f = refl

-- the components as they are written are compared so
written_at : (most : ℕ) (x y : List ℕ) → component_fault most (component_of x) ≡ None → component_fault most (component_of y) ≡ None
    → slice_cmp nat_cmp x y ≡ component_cmp (component_of x) (component_of y)
written_at most x y e f =
    ap (λ (text : List ℕ). slice_cmp nat_cmp text y) (sym (component_takes x))
    ∙ ap (slice_cmp nat_cmp (component_text (component_of x))) (sym (component_takes y))
    ∙ at_end most (component_of x) (component_of y) e f

pub written_cmp : (p q : PlainPrincipal) → IsAclId (id_parts p) → IsAclId (id_parts q)
    → ordering_then (ordering_then (slice_cmp nat_cmp p.person q.person) (slice_cmp nat_cmp p.project q.project)) (slice_cmp nat_cmp p.tag q.tag)
    ≡ components_cmp (id_parts p) (id_parts q)
written_cmp p q e f =
    let a = all_three (component_fault 22 (component_of p.person)) (component_fault 9 (component_of p.project)) (component_fault 1 (component_of p.tag)) e in
    let b = all_three (component_fault 22 (component_of q.person)) (component_fault 9 (component_of q.project)) (component_fault 1 (component_of q.tag)) f in
    rw (written_at 22 p.person q.person a.0 b.0, written_at 9 p.project q.project a.1 b.1, written_at 1 p.tag q.tag a.2 b.2)
    (sym (assoc (component_cmp (component_of p.person) (component_of q.person)) (component_cmp (component_of p.project) (component_of q.project)) (component_cmp (component_of p.tag) (component_of q.tag))))

pub text_order : (x y : PlainAclId) → IsAclId x → IsAclId y → slice_cmp nat_cmp (acl_id_text x) (acl_id_text y) ≡ components_cmp x y
text_order x y e f =
    let a = all_three (component_fault 22 x.person) (component_fault 9 x.project) (component_fault 1 x.tag) e in
    let b = all_three (component_fault 22 y.person) (component_fault 9 y.project) (component_fault 1 y.tag) f in
    before_dot 22 x.person y.person (component_text x.project ++ 46 ∷ component_text x.tag) (component_text y.project ++ 46 ∷ component_text y.tag) a.0 b.0
    ∙ ap (ordering_then (component_cmp x.person y.person)) (before_dot 9 x.project y.project (component_text x.tag) (component_text y.tag) a.1 b.1)
    ∙ ap (λ (o : Ordering). ordering_then (component_cmp x.person y.person) (ordering_then (component_cmp x.project y.project) o)) (at_end 1 x.tag y.tag a.2 b.2)
