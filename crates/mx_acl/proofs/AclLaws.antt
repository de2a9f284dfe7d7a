-- The laws of entries, at identifiers in their order.
use Rattle.std.proofs.Common.{suc, ◌≡◌, ◌≤◌, Bool, true, false, cond, not, List, [], ◌∷◌, length, None, Some, refl, ap, sym, ◌∙◌, arith}
use Rattle.std.specs.Ordering.{eq_by_cmp, is_eq}
use Rattle.std.specs.declared.cmp.Ordering.{Ordering}
use Rattle.std.proofs.lemmas.Cmp.{alike_right, eq_by_cmp_equiv}
use Rattle.std.specs.Prelude.{T, Result, Ok, Err, OnOk, OnErr}
use Rattle.std.specs.List.{IsDistinct}
use Rattle.std.specs.List.Sorted.{IsSorted}
use Rattle.std.specs.Map.{keys_of, lookup, remove_entry}
use Rattle.std.specs.FinMap.Entries.{put, find, where_key, is_sorted, find-put, find-where_key}
use Rattle.mx_name.specs.Identifiers.{PlainAclId}
use Rattle.mx_name.specs.IdentifierOrder.{id_cmp}
use Rattle.mx_name.specs.OrderLaws.{id_total, id_equal}
use Rattle.mx_acl.specs.declared.modes.Modes.{Modes}
use Rattle.mx_acl.specs.Access.{Access, same_id, without_entry}
use Rattle.mx_acl.proofs.EntryLaws.{lookup_is_find, strict, rising, put_is, removed_is}

pub found : (id : PlainAclId) (es : List (PlainAclId × Modes)) → lookup (eq_by_cmp id_cmp id) es ≡ find id_cmp id es
found id es = lookup_is_find id_cmp (eq_by_cmp id_cmp) id_total (λ x y. refl) id es

pub in_order : (es : List (PlainAclId × Modes)) → T (is_sorted id_cmp es) → IsSorted id_cmp (keys_of es)
in_order es t = rising id_cmp (eq_by_cmp id_cmp) id_total (λ x y. refl) es t

pub strictly : (es : List (PlainAclId × Modes)) → IsSorted id_cmp (keys_of es) → IsDistinct (eq_by_cmp id_cmp) (keys_of es) → T (is_sorted id_cmp es)
strictly es up apart = strict id_cmp (eq_by_cmp id_cmp) id_total (λ x y. refl) es up apart

pub set_is : (old new : List (PlainAclId × Modes)) (id : PlainAclId) (modes : Modes) → T (is_sorted id_cmp old) → T (is_sorted id_cmp new)
    → ((q : PlainAclId) → lookup (eq_by_cmp id_cmp q) new ≡ cond (eq_by_cmp id_cmp id q) (Some modes) (lookup (eq_by_cmp id_cmp q) old)) → new ≡ put id_cmp id modes old
set_is old new id modes t u updated = put_is id_cmp (eq_by_cmp id_cmp) id_total (λ x y. refl) id_equal old new id modes t u updated

pub taken_is : (id : PlainAclId) (es : List (PlainAclId × Modes)) → T (is_sorted id_cmp es) → remove_entry (eq_by_cmp id_cmp id) es ≡ where_key id_cmp (λ other. not (eq_by_cmp id_cmp id other)) es
taken_is id es t = removed_is id_cmp (eq_by_cmp id_cmp) id_total (λ x y. refl) id es t

pub entry_put : (es : List (PlainAclId × Modes)) (id : PlainAclId) (modes : Modes) (other : PlainAclId)
    → find id_cmp other (put id_cmp id modes es) ≡ cond (eq_by_cmp id_cmp other id) (Some modes) (find id_cmp other es)
entry_put es id modes other = find-put id_cmp id_total other id modes es

not_then : {A : Type 0} (b : Bool) (x y : A) → cond (not b) x y ≡ cond b y x
not_then true x y = refl
not_then false x y = refl

pub entry_taken : (es : List (PlainAclId × Modes)) (id other : PlainAclId)
    → find id_cmp other (where_key id_cmp (λ x. not (eq_by_cmp id_cmp id x)) es) ≡ cond (eq_by_cmp id_cmp other id) None (find id_cmp other es)
entry_taken es id other =
    find-where_key id_cmp (λ (x : PlainAclId). not (eq_by_cmp id_cmp id x)) other
    (λ x tied. ap (λ (o : Ordering). not (is_eq o)) (sym (alike_right id_total other x id tied))) es
    ∙ not_then (eq_by_cmp id_cmp id other) (find id_cmp other es) None
    ∙ ap (λ (b : Bool). cond b None (find id_cmp other es)) ((eq_by_cmp_equiv id_total).symm id other)

fewer : (test : PlainAclId → Bool) (es : List (PlainAclId × Modes)) → length (where_key id_cmp test es) ≤ length es
fewer test [] = omega arith
fewer test (e ∷ es) =
    elim (test e.0) as (λ b. length (cond b (e ∷ where_key id_cmp test es) (where_key id_cmp test es)) ≤ suc (length es)) [
      | true ↦ omega (arith, fewer test es)
      | false ↦ omega (arith, fewer test es)
    ]

-- a removal, refused or not, leaves no more entries than there were
pub no_more : {A E : Type 0} (result : Result A E) (old new : Access) (id : PlainAclId)
    → OnOk result (new ≡ without_entry old id) → OnErr result (new ≡ old) → length new.entries ≤ length old.entries
no_more (Ok value) old new id ok err = rw ok (fewer (λ other. not (same_id id other)) old.entries)
no_more (Err e) old new id ok err = rw err (omega arith)
