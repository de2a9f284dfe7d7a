-- The maps of object segments, with one more.
use Rattle.std.proofs.Common.{◌≡◌, ◌≢◌, ℕ, ◌==◌, ◌+◌, ◌≤◌, ◌<◌, eqb, cond, Bool, true, false, List, [], ◌∷◌, ◌++◌, Option, Some, None, refl, sym, ap, subst, ◌∙◌, arith}
use Rattle.std.proofs.lemmas.Bool.{eqb-true, ne_eqb}
use Rattle.indexmap.specs.IndexMap.{insert_entry}
use Rattle.mx_object.specs.Objects.{PlainObjectMap}
use Rattle.mx_hier.specs.Objects.{Objects, object_of, with_object, gate_of, defined_in}
use Rattle.mx_hier.specs.Sound.{AreObjects}

-- what was found is found
found_before : (objects : Objects) (own uid : ℕ) (object : PlainObjectMap) → uid ≢ own
    → object_of (objects ++ (own, object) ∷ []) uid ≡ object_of objects uid
found_before [] own uid object apart = rw (ne_eqb uid own apart) refl
found_before (x ∷ xs) own uid object apart = ap (cond (eqb uid x.0) (Some x.1)) (found_before xs own uid object apart)

pub found_still : (objects : Objects) (own uid : ℕ) (object : Option PlainObjectMap) → uid ≢ own
    → object_of (with_object objects own object) uid ≡ object_of objects uid
found_still objects own uid None apart = refl
found_still objects own uid (Some object) apart = found_before objects own uid object apart

-- and of the uid itself the new one
found_last : (objects : Objects) (own : ℕ) (object : PlainObjectMap) → object_of objects own ≡ None
    → object_of (objects ++ (own, object) ∷ []) own ≡ Some object
found_last [] own object none = grind arith
found_last (x ∷ xs) own object none = by (eqb own x.0) none (found_last xs own object)
  where
    by : (b : Bool) → cond b (Some x.1) (object_of xs own) ≡ None
        → (object_of xs own ≡ None → object_of (xs ++ (own, object) ∷ []) own ≡ Some object)
        → cond b (Some x.1) (object_of (xs ++ (own, object) ∷ []) own) ≡ Some object
    by true none rest = absurd (cc)
    by false none rest = rest none

found_own : (objects : Objects) (own : ℕ) (object : Option PlainObjectMap) → object_of objects own ≡ None
    → object_of (with_object objects own object) own ≡ object
found_own objects own None none = none
found_own objects own (Some object) none = found_last objects own object none

-- what is inserted at a new uid is the last
pub pushed : (objects : Objects) (own : ℕ) (object : PlainObjectMap) → object_of objects own ≡ None
    → insert_entry ◌==◌ objects own object ≡ objects ++ (own, object) ∷ []
pushed [] own object none = refl
pushed (x ∷ xs) own object none = by (eqb own x.0) none (pushed xs own object)
  where
    by : (b : Bool) → cond b (Some x.1) (object_of xs own) ≡ None
        → (object_of xs own ≡ None → insert_entry ◌==◌ xs own object ≡ xs ++ (own, object) ∷ [])
        → cond b ((x.0, object) ∷ xs) (x ∷ insert_entry ◌==◌ xs own object) ≡ x ∷ (xs ++ (own, object) ∷ [])
    by true none rest = absurd (cc)
    by false none rest = ap (λ (ys : Objects). x ∷ ys) (rest none)

-- a uid more is given, with a map or without
pub objects_later : (objects : Objects) (next : ℕ) → AreObjects objects next → AreObjects objects (1 + next)
objects_later objects next are =
    record { given = λ uid later. are.given uid (omega (arith, later)); gates = are.gates; words = are.words }

pub objects_with : (objects : Objects) (next : ℕ) (object : Option PlainObjectMap) → gate_of object ≤ 1024
    → ((word : ℕ) (symbol : List ℕ) → defined_in object symbol ≡ Some word → word < 1024)
    → AreObjects objects next → AreObjects (with_object objects next object) (1 + next)
objects_with objects next object gates words are = record {
  given = λ uid later. found_still objects next uid object (λ same. absurd (omega (arith, later, same))) ∙ are.given uid (omega (arith, later));
  gates = λ uid. by_uid uid (eqb uid next) refl;
  words = λ uid word symbol e. defined_by uid word symbol (eqb uid next) refl e;
}
  where
    by_uid : (uid : ℕ) (b : Bool) → eqb uid next ≡ b → gate_of (object_of (with_object objects next object) uid) ≤ 1024
    by_uid uid true is =
        subst (λ n. gate_of (object_of (with_object objects next object) n) ≤ 1024) (sym (eqb-true uid next is))
        (subst (λ o. gate_of o ≤ 1024) (sym (found_own objects next object (are.given next (omega arith)))) gates)
    by_uid uid false is =
        subst (λ o. gate_of o ≤ 1024) (sym (found_still objects next uid object (λ same. absurd (grind arith)))) (are.gates uid)

    defined_by : (uid word : ℕ) (symbol : List ℕ) (b : Bool) → eqb uid next ≡ b
        → defined_in (object_of (with_object objects next object) uid) symbol ≡ Some word → word < 1024
    defined_by uid word symbol true is e =
        let same : uid ≡ next = eqb-true uid next is in
        let own = found_own objects next object (are.given next (omega arith)) in
        words word symbol
        (sym (ap (λ o. defined_in o symbol) (ap (object_of (with_object objects next object)) same ∙ own)) ∙ e)
    defined_by uid word symbol false is e =
        are.words uid word symbol
        (sym (ap (λ o. defined_in o symbol) (found_still objects next uid object (λ same. absurd (grind arith)))) ∙ e)
