-- What texts spell and how they are read: one text for each value, one value for each text, and the bytes that no text has.
use Rattle.std.proofs.Common.{ℕ, ◌≡◌, ◌≤◌, eqb, Bool, true, false, cond, ◌&&◌, not, List, [], ◌∷◌, ◌++◌, length, Option, None, Some, Result, Ok, Err, ◌+◌, ◌==◌, length-append, append-nil, take, drop, suc, ltb, ◌-◌, refl, ap, sym, ◌∙◌, subst, arith}
use Rattle.std.specs.List.{list_all, slice_split, onto_first, join_with_byte}
use Rattle.std.specs.Option.{option_or}
use Rattle.std.specs.Result.{result_ok}
use Rattle.std.specs.Cmp.Lexicographic.{pointwise}
use Rattle.std.proofs.lemmas.Bool.Decides.{nat_tests}
use Rattle.std.proofs.lemmas.List.Splits.{join_with_byte-slice_split}
use Rattle.mx_name.specs.declared.names.NameError.{NameError}
use Rattle.mx_name.specs.declared.names.NameError.TheVariants.{Empty}
use Rattle.mx_name.specs.Answers.{unless, judged}
use Rattle.mx_name.specs.Paths.{IsPath, path_text, names_text, resolved}
use Rattle.mx_name.specs.Pathnames.{is_absolute, climbs, after_marks, names_of, first_fault, pathname_fault, pathname_of, is_pathname_byte}
use Rattle.mx_name.specs.Principals.{PlainPrincipal, IsPrincipal, is_principal_byte, components_fault, three, spelled, principal_of, principal_text}
use Rattle.mx_name.specs.Identifiers.{Component, Any, Literal, PlainAclId, IsAclId, component_of, component_text, component_fault, id_fault, id_parts, with_stars, acl_id_of, acl_id_text}
use Rattle.mx_name.proofs.FirstFaults.{or_left, or_right}
use Rattle.mx_name.proofs.PathLaws.{pathname_names}
use Rattle.mx_name.specs.OrderLaws.{both_left, both_right, and_false}
use Rattle.mx_name.specs.Stars.{star_is, component_takes}
use Rattle.mx_name.specs.Names.{is_free, is_name_byte, name_fault, name_of, fault_of}

-- a byte that fails the test is no byte that passes it
pub other_byte : (p : ℕ → Bool) (byte c : ℕ) → p byte ≡ false → p c ≡ true → eqb c byte ≡ false
other_byte p byte c f t = by_test (eqb c byte) refl
  where
    by_test : (b : Bool) → eqb c byte ≡ b → b ≡ false
    by_test false e = refl
    by_test true e = let same : c ≡ byte = grind (arith, nat_tests, e) in let clash : p c ≡ false = rw same f in absurd (cc)

pub all_free : (p : ℕ → Bool) (byte : ℕ) (text : List ℕ) → p byte ≡ false → list_all p text ≡ true → is_free byte text ≡ true
all_free p byte [] f t = refl
all_free p byte (c ∷ cs) f t =
    rw (other_byte p byte c f (both_left (p c) (list_all p cs) t)) (all_free p byte cs f (both_right (p c) (list_all p cs) t))

-- a text with no fault passes its test
pub faultless_fits : (p : ℕ → Bool) (most : ℕ) (text : List ℕ) → fault_of p most text ≡ None → list_all p text ≡ true
faultless_fits p most text e = grind (arith, nat_tests, e)

pub name_is_free : (byte : ℕ) (text : List ℕ) → is_name_byte byte ≡ false → name_fault text ≡ None → is_free byte text ≡ true
name_is_free byte text f e = all_free is_name_byte byte text f (faultless_fits is_name_byte 32 text e)

-- a reading that gives a value was judged to have no fault
judged_ok : {A E : Type 0} (fault : A → Option E) (reading : Result A E) (value : A) → result_ok (judged fault reading) ≡ Some value → (reading ≡ Ok value) × (fault value ≡ None)
judged_ok fault (Err e) value h = absurd (cc)
judged_ok {A = A} {E = E} fault (Ok given) value h = by_fault (fault given) refl h
  where
    by_fault : (o : Option E) → fault given ≡ o → result_ok (unless o given) ≡ Some value → (◌≡◌ {A = Result A E} (Ok given) (Ok value)) × (fault value ≡ None)
    by_fault None e h = let same : given ≡ value = cc in (ap Ok same, subst (λ (v : A). fault v ≡ None) same e)
    by_fault (Some x) e h = absurd (cc)

-- three components, joined, give the text back
join_three : (parts : List (List ℕ)) (p : PlainPrincipal) → three parts ≡ Ok p → principal_text p ≡ join_with_byte 46 parts
join_three [] p h = absurd (cc)
join_three (a ∷ []) p h = absurd (cc)
join_three (a ∷ b ∷ []) p h = absurd (cc)
join_three (a ∷ b ∷ c ∷ []) p h = let same : record { person = a; project = b; tag = c } ≡ p = cc in ap principal_text (sym same)
join_three (a ∷ b ∷ c ∷ d ∷ more) p h = absurd (cc)

pub spelled_text : (text : List ℕ) (p : PlainPrincipal) → spelled text ≡ Ok p → principal_text p ≡ text
spelled_text text p = by_test (eqb (length text) 0)
  where
    by_test : (b : Bool) → cond b (Err Empty) (three (slice_split (λ c. eqb c 46) text)) ≡ Ok p → principal_text p ≡ text
    by_test true h = absurd (cc)
    by_test false h = join_three (slice_split (λ c. eqb c 46) text) p h ∙ join_with_byte-slice_split 46 text

-- what is read as a principal is its spelling
pub principal_takes : (text : List ℕ) (p : PlainPrincipal) → principal_of text ≡ Some p → (principal_text p ≡ text) × IsPrincipal p
principal_takes text p h = let read = judged_ok components_fault (spelled text) p h in (spelled_text text p read.0, read.1)

split_alone : (byte : ℕ) (text : List ℕ) → is_free byte text ≡ true → slice_split (λ c. eqb c byte) text ≡ text ∷ []
split_alone byte [] f = refl
split_alone byte (c ∷ cs) f = by_test (eqb c byte) (split_alone byte cs) f
  where
    by_test : (b : Bool) → (is_free byte cs ≡ true → slice_split (λ c. eqb c byte) cs ≡ cs ∷ []) → (not b && is_free byte cs) ≡ true → cond b ([] ∷ slice_split (λ c. eqb c byte) cs) (onto_first c (slice_split (λ c. eqb c byte) cs)) ≡ (c ∷ cs) ∷ []
    by_test true ih f = absurd (cc)
    by_test false ih f = rw (ih f) refl

split_front : (byte : ℕ) (text more : List ℕ) → is_free byte text ≡ true → slice_split (λ c. eqb c byte) (text ++ byte ∷ more) ≡ text ∷ slice_split (λ c. eqb c byte) more
split_front byte [] more f = let same : eqb byte byte ≡ true = grind (arith, nat_tests) in rw same refl
split_front byte (c ∷ cs) more f = by_test (eqb c byte) (split_front byte cs more) f
  where
    by_test : (b : Bool) → (is_free byte cs ≡ true → slice_split (λ c. eqb c byte) (cs ++ byte ∷ more) ≡ cs ∷ slice_split (λ c. eqb c byte) more) → (not b && is_free byte cs) ≡ true → cond b ([] ∷ slice_split (λ c. eqb c byte) (cs ++ byte ∷ more)) (onto_first c (slice_split (λ c. eqb c byte) (cs ++ byte ∷ more))) ≡ (c ∷ cs) ∷ slice_split (λ c. eqb c byte) more
    by_test true ih f = absurd (cc)
    by_test false ih f = rw (ih f) refl

-- three texts without a dot are read as the components that they are
spelled_again : (a b c : List ℕ) → is_free 46 a ≡ true → is_free 46 b ≡ true → is_free 46 c ≡ true → spelled (join_with_byte 46 (a ∷ b ∷ c ∷ [])) ≡ Ok (record { person = a; project = b; tag = c })
spelled_again a b c f g h =
    let some : eqb (length (a ++ 46 ∷ (b ++ 46 ∷ c))) 0 ≡ false = grind (arith, nat_tests, length-append {A = ℕ}) in
    rw (some, split_front 46 a (b ++ 46 ∷ c) f, split_front 46 b c g, split_alone 46 c h) refl

pub all_three : (a b c : Option NameError) → option_or a (option_or b c) ≡ None → (a ≡ None) × (b ≡ None) × (c ≡ None)
all_three a b c e = let rest = or_right a (option_or b c) e in (or_left a (option_or b c) e, or_left b c rest, or_right b c rest)

component_is_free : (byte most : ℕ) (text : List ℕ) → is_principal_byte byte ≡ false → fault_of is_principal_byte most text ≡ None → is_free byte text ≡ true
component_is_free byte most text f e = all_free is_principal_byte byte text f (faultless_fits is_principal_byte most text e)

free_append : (byte : ℕ) (xs ys : List ℕ) → is_free byte xs ≡ true → is_free byte ys ≡ true → is_free byte (xs ++ ys) ≡ true
free_append byte [] ys f g = g
free_append byte (x ∷ xs) ys f g = rw (both_left (not (eqb x byte)) (is_free byte xs) f) (free_append byte xs ys (both_right (not (eqb x byte)) (is_free byte xs) f) g)

free_three : (byte : ℕ) (a b c : List ℕ) → eqb 46 byte ≡ false → is_free byte a ≡ true → is_free byte b ≡ true → is_free byte c ≡ true → is_free byte (join_with_byte 46 (a ∷ b ∷ c ∷ [])) ≡ true
free_three byte a b c d f g h =
    let last : is_free byte (46 ∷ c) ≡ true = rw (d, h) refl in
    let back : is_free byte (46 ∷ (b ++ 46 ∷ c)) ≡ true = rw (d, free_append byte b (46 ∷ c) g last) refl in
    free_append byte a (46 ∷ (b ++ 46 ∷ c)) f back

-- a principal's text is read as the principal
pub principal_again : (p : PlainPrincipal) → IsPrincipal p → principal_of (principal_text p) ≡ Some p
principal_again p e =
    let parts = all_three (fault_of is_principal_byte 22 p.person) (fault_of is_principal_byte 9 p.project) (fault_of is_principal_byte 1 p.tag) e in
    let person = component_is_free 46 22 p.person refl parts.0 in
    let project = component_is_free 46 9 p.project refl parts.1 in
    let tag = component_is_free 46 1 p.tag refl parts.2 in
    let spelled_so = spelled_again p.person p.project p.tag person project tag in
    rw (spelled_so, e) refl

-- it has no byte that is neither a dot nor allowed in a component: no blank, no newline
pub principal_is_free : (byte : ℕ) (p : PlainPrincipal) → is_principal_byte byte ≡ false → eqb 46 byte ≡ false → IsPrincipal p → is_free byte (principal_text p) ≡ true
principal_is_free byte p f d e =
    let parts = all_three (fault_of is_principal_byte 22 p.person) (fault_of is_principal_byte 9 p.project) (fault_of is_principal_byte 1 p.tag) e in
    free_three byte p.person p.project p.tag d (component_is_free byte 22 p.person f parts.0) (component_is_free byte 9 p.project f parts.1) (component_is_free byte 1 p.tag f parts.2)

-- a component's text is read as the component
pub component_again : (most : ℕ) (k : Component) → component_fault most k ≡ None → component_of (component_text k) ≡ k
component_again most Any e = refl
component_again most (Literal text) e = by_test (pointwise ◌==◌ text (42 ∷ [])) refl
  where
    by_test : (b : Bool) → pointwise ◌==◌ text (42 ∷ []) ≡ b → cond b Any (Literal text) ≡ Literal text
    by_test true h =
        let star = star_is text h in
        let bad : fault_of is_principal_byte most (42 ∷ []) ≡ None = subst (λ (t : List ℕ). fault_of is_principal_byte most t ≡ None) (sym star) e in
        let fits = faultless_fits is_principal_byte most (42 ∷ []) bad in
        absurd (let clash : false ≡ true = fits in cc)
    by_test false h = refl

component_text_free : (byte most : ℕ) (k : Component) → is_principal_byte byte ≡ false → eqb 42 byte ≡ false → component_fault most k ≡ None → is_free byte (component_text k) ≡ true
component_text_free byte most Any f d e = rw d refl
component_text_free byte most (Literal text) f d e = component_is_free byte most text f e

with_stars_ok : (reading : Result PlainPrincipal NameError) (id : PlainAclId) → with_stars reading ≡ Ok id → (p : PlainPrincipal) × ((reading ≡ Ok p) × (id_parts p ≡ id))
with_stars_ok (Err e) id h = absurd (cc)
with_stars_ok (Ok p) id h = (p, (refl, cc))

pub spelled_id_text : (text : List ℕ) (p : PlainPrincipal) → spelled text ≡ Ok p → acl_id_text (id_parts p) ≡ text
spelled_id_text text p e =
    let same : acl_id_text (id_parts p) ≡ principal_text p = rw (component_takes p.person, component_takes p.project, component_takes p.tag) refl in
    same ∙ spelled_text text p e

-- what is read as an identifier is its spelling
pub acl_id_takes : (text : List ℕ) (id : PlainAclId) → acl_id_of text ≡ Some id → (acl_id_text id ≡ text) × IsAclId id
acl_id_takes text id h =
    let read = judged_ok id_fault (with_stars (spelled text)) id h in
    let parts = with_stars_ok (spelled text) id read.0 in
    (ap acl_id_text (sym parts.1.1) ∙ spelled_id_text text parts.0 parts.1.0, read.1)

-- an identifier's text is read as the identifier
pub acl_id_again : (id : PlainAclId) → IsAclId id → acl_id_of (acl_id_text id) ≡ Some id
acl_id_again id e =
    let parts = all_three (component_fault 22 id.person) (component_fault 9 id.project) (component_fault 1 id.tag) e in
    let person = component_text_free 46 22 id.person refl refl parts.0 in
    let project = component_text_free 46 9 id.project refl refl parts.1 in
    let tag = component_text_free 46 1 id.tag refl refl parts.2 in
    let spelled_so = spelled_again (component_text id.person) (component_text id.project) (component_text id.tag) person project tag in
    rw (spelled_so, component_again 22 id.person parts.0, component_again 9 id.project parts.1, component_again 1 id.tag parts.2, e) refl

-- it has no byte that is neither a dot nor a star nor allowed in a component: no blank, no newline
pub acl_id_is_free : (byte : ℕ) (id : PlainAclId) → is_principal_byte byte ≡ false → eqb 46 byte ≡ false → eqb 42 byte ≡ false → IsAclId id → is_free byte (acl_id_text id) ≡ true
acl_id_is_free byte id f d s e =
    let parts = all_three (component_fault 22 id.person) (component_fault 9 id.project) (component_fault 1 id.tag) e in
    free_three byte (component_text id.person) (component_text id.project) (component_text id.tag) d
    (component_text_free byte 22 id.person f s parts.0) (component_text_free byte 9 id.project f s parts.1) (component_text_free byte 1 id.tag f s parts.2)

unless_some : {E : Type 0} (fault : Option E) (text value : List ℕ) → result_ok (unless fault text) ≡ Some value → (value ≡ text) × (fault ≡ None)
unless_some None text value h = (cc, refl)
unless_some (Some x) text value h = absurd (cc)

-- a text that is read as a name is the name
pub name_takes : (text name : List ℕ) → name_of text ≡ Some name → (name ≡ text) × (name_fault name ≡ None)
name_takes text name h = let read = unless_some (name_fault text) text name h in (read.0, rw read.0 read.1)

pub name_again : (name : List ℕ) → name_fault name ≡ None → name_of name ≡ Some name
name_again name e = rw e refl

-- a text that is read as a pathname is the pathname
pub pathname_takes : (text pathname : List ℕ) → pathname_of text ≡ Some pathname → (pathname ≡ text) × (pathname_fault pathname ≡ None)
pathname_takes text pathname h = let read = unless_some (pathname_fault text) text pathname h in (read.0, rw read.0 read.1)

pub pathname_again : (pathname : List ℕ) → pathname_fault pathname ≡ None → pathname_of pathname ≡ Some pathname
pathname_again pathname e = rw e refl

name_bytes : (text : List ℕ) → list_all is_name_byte text ≡ true → list_all is_pathname_byte text ≡ true
name_bytes [] h = refl
name_bytes (c ∷ cs) h = rw (both_left (is_name_byte c) (list_all is_name_byte cs) h, name_bytes cs (both_right (is_name_byte c) (list_all is_name_byte cs) h)) refl

all_append : (p : ℕ → Bool) (xs ys : List ℕ) → list_all p xs ≡ true → list_all p ys ≡ true → list_all p (xs ++ ys) ≡ true
all_append p [] ys f g = g
all_append p (x ∷ xs) ys f g = rw (both_left (p x) (list_all p xs) f) (all_append p xs ys (both_right (p x) (list_all p xs) f) g)

joined_bytes : (names : List (List ℕ)) → first_fault names ≡ None → list_all is_pathname_byte (join_with_byte 62 names) ≡ true
joined_bytes [] h = refl
joined_bytes (name ∷ []) h = name_bytes name (faultless_fits is_name_byte 32 name (or_left (name_fault name) None h))
joined_bytes (name ∷ next ∷ names) h =
    all_append is_pathname_byte name (62 ∷ join_with_byte 62 (next ∷ names))
    (name_bytes name (faultless_fits is_name_byte 32 name (or_left (name_fault name) (first_fault (next ∷ names)) h)))
    (joined_bytes (next ∷ names) (or_right (name_fault name) (first_fault (next ∷ names)) h))

mark_byte : (mark c : ℕ) → is_pathname_byte mark ≡ true → eqb c mark ≡ true → is_pathname_byte c ≡ true
mark_byte mark c m e = let same : c ≡ mark = grind (arith, nat_tests, e) in rw same m

climbed_bytes : (text : List ℕ) → list_all is_pathname_byte (drop (climbs text) text) ≡ true → list_all is_pathname_byte text ≡ true
climbed_bytes [] h = refl
climbed_bytes (c ∷ cs) h = by_test (eqb c 60) refl h (climbed_bytes cs)
  where
    by_test : (b : Bool) → eqb c 60 ≡ b → list_all is_pathname_byte (drop (cond b (1 + climbs cs) 0) (c ∷ cs)) ≡ true
        → (list_all is_pathname_byte (drop (climbs cs) cs) ≡ true → list_all is_pathname_byte cs ≡ true) → (is_pathname_byte c && list_all is_pathname_byte cs) ≡ true
    by_test true e h ih = let one : 1 + climbs cs ≡ suc (climbs cs) = omega arith in rw (mark_byte 60 c refl e) (ih (rw one at h))
    by_test false e h ih = h

marked_bytes : (text : List ℕ) → list_all is_pathname_byte (after_marks text) ≡ true → list_all is_pathname_byte text ≡ true
marked_bytes [] h = refl
marked_bytes (c ∷ cs) h = by_test (eqb c 62) refl h
  where
    by_test : (b : Bool) → eqb c 62 ≡ b → list_all is_pathname_byte (cond b cs (drop (climbs (c ∷ cs)) (c ∷ cs))) ≡ true → (is_pathname_byte c && list_all is_pathname_byte cs) ≡ true
    by_test true e h = rw (mark_byte 62 c refl e) h
    by_test false e h = climbed_bytes (c ∷ cs) h

named_bytes : (text rest : List ℕ) (marks : Bool) → first_fault (cond (marks && eqb (length rest) 0) [] (slice_split (λ c. eqb c 62) rest)) ≡ None → list_all is_pathname_byte rest ≡ true
named_bytes text [] marks h = refl
named_bytes text (c ∷ cs) marks h = by_test (marks && eqb (length (c ∷ cs)) 0) refl h
  where
    by_test : (b : Bool) → (marks && eqb (length (c ∷ cs)) 0) ≡ b → first_fault (cond b [] (slice_split (λ c. eqb c 62) (c ∷ cs))) ≡ None → list_all is_pathname_byte (c ∷ cs) ≡ true
    by_test true e h = absurd (let no : eqb (suc (length cs)) 0 ≡ true = both_right marks (eqb (length (c ∷ cs)) 0) e in grind (arith, nat_tests, no))
    by_test false e h = subst (λ (t : List ℕ). list_all is_pathname_byte t ≡ true) (join_with_byte-slice_split 62 (c ∷ cs)) (joined_bytes (slice_split (λ c. eqb c 62) (c ∷ cs)) h)

-- a pathname has no byte but those of names, separators and marks: no blank, no newline
pub pathname_is_free : (byte : ℕ) (pathname : List ℕ) → is_pathname_byte byte ≡ false → pathname_fault pathname ≡ None → is_free byte pathname ≡ true
pathname_is_free byte pathname f e =
    all_free is_pathname_byte byte pathname f
    (marked_bytes pathname (named_bytes pathname (after_marks pathname) (not (eqb (length pathname) 0)) (pathname_names pathname e)))

-- a name is its one part
pub name_alone : (name : List ℕ) → name_fault name ≡ None → slice_split (λ c. c == 62) name ≡ name ∷ []
name_alone name e = split_alone 62 name (name_is_free 62 name refl e)

split_names : (name : List ℕ) (names : List (List ℕ)) → first_fault (name ∷ names) ≡ None → slice_split (λ c. eqb c 62) (name ++ names_text names) ≡ name ∷ names
split_names name [] e = rw append-nil (name_alone name (or_left (name_fault name) None e))
split_names name (next ∷ names) e =
    split_front 62 name (next ++ names_text names) (name_is_free 62 name refl (or_left (name_fault name) (first_fault (next ∷ names)) e))
    ∙ ap (λ (rest : List (List ℕ)). name ∷ rest) (split_names next names (or_right (name_fault name) (first_fault (next ∷ names)) e))

name_some : (p : ℕ → Bool) (most : ℕ) (name more : List ℕ) → fault_of p most name ≡ None → eqb (length (name ++ more)) 0 ≡ false
name_some p most [] more e = absurd (cc)
name_some p most (c ∷ cs) more e = grind (arith, nat_tests)

-- a path's text has the path's names
pub path_names : (names : List (List ℕ)) → first_fault names ≡ None → names_of (path_text names) ≡ names
path_names [] e = refl
path_names (name ∷ names) e =
    rw (name_some is_name_byte 32 name (names_text names) (or_left (name_fault name) (first_fault names) e), and_false (not (eqb (length (path_text (name ∷ names))) 0)))
    (split_names name names e)

path_absolute : (names : List (List ℕ)) → is_absolute (path_text names) ≡ true
path_absolute [] = refl
path_absolute (name ∷ names) = refl

-- a path's text is a pathname
pub path_pathname : (names : List (List ℕ)) → IsPath names → pathname_fault (path_text names) ≡ None
path_pathname names path =
    let within : ltb 168 (length (path_text names)) ≡ false = grind (arith, nat_tests, path.within) in
    rw (within, path_names names path.names_fit) path.names_fit

-- that stands for the path, from any base
pub path_again : (names : List (List ℕ)) → IsPath names → (base : List (List ℕ)) → resolved base (path_text names) ≡ names
path_again names path base =
    let text = path_text names in
    ap (λ (b : Bool). cond b [] (take (length base - climbs text) base) ++ names_of text) (path_absolute names) ∙ path_names names path.names_fit

-- and is no longer than it may be
pub faultless_within : (p : ℕ → Bool) (most : ℕ) (text : List ℕ) → fault_of p most text ≡ None → length text ≤ most
faultless_within p most text e = grind (arith, nat_tests, e)

-- nor are the components of a principal
pub components_within : (p : PlainPrincipal) → IsPrincipal p → (length p.person ≤ 22) × (length p.project ≤ 9) × (length p.tag ≤ 1)
components_within p e =
    let parts = all_three (fault_of is_principal_byte 22 p.person) (fault_of is_principal_byte 9 p.project) (fault_of is_principal_byte 1 p.tag) e in (
      faultless_within is_principal_byte 22 p.person parts.0,
      faultless_within is_principal_byte 9 p.project parts.1,
      faultless_within is_principal_byte 1 p.tag parts.2,
    )
