-- Laws of an object's map in a line: what its fields are read as is spelled so, and a map that fits is read back.
use Rattle.std.proofs.Common.{◌≡◌, ℕ, zero, suc, ◌+◌, ◌-◌, ◌<◌, ◌≤◌, ◌==◌, nat_le, nat_lt, Bool, true, false, cond, not, ◌&&◌, ◌||◌, List, [], ◌∷◌, ◌++◌, map, length, Option, Some, None, is_none, codes, decimal, refl, ap, sym, ◌∙◌, subst, arith, append_assoc, append-nil}
use Rattle.std.proofs.lemmas.Bool.Decides.{nat_tests}
use Rattle.std.proofs.lemmas.List.{map-append}
use Rattle.std.proofs.lemmas.List.Folds.{list_all-append}
use Rattle.std.specs.Cmp.Lexicographic.{pointwise}
use Rattle.std.specs.List.{list_all}
use Rattle.mx_name.proofs.CutLaws.{cut_takes, cut_again}
use Rattle.mx_name.proofs.TextLaws.{all_free, name_is_free, name_takes, name_again}
use Rattle.mx_name.specs.Cuts.{cut_at}
use Rattle.mx_name.specs.Names.{is_free, is_name_byte, name_fault, name_of}
use Rattle.mx_sdw.proofs.OctalLaws.{octal_has_digits}
use Rattle.mx_sdw.specs.Octal.{is_octal_digit, octal}
use Rattle.mx_object.specs.Objects.{PlainObjectMap, has_twice, symbols_of, map_fault}
use Rattle.mx_object.specs.declared.objects.ObjectError.{ObjectError}
use Rattle.mx_object.specs.declared.objects.ObjectError.TheVariants.{Twice, TooMany}
use Rattle.mx_request.specs.declared.reading.objects.Parts.{Parts}
use Rattle.mx_request.specs.Decimals.{decimal_number, is_digit}
use Rattle.mx_request.specs.Fields.{line_of, is_name}
use Rattle.mx_request.specs.ObjectTexts.{definition_text, link_text, object_fields, is_definition, is_link, fits_object}
use Rattle.mx_request.specs.ReadingObjects.{definition_at, object_link_at, with_definition, with_link, with_field, with_fields_by, with_fields, no_parts, object_by, object_at}
use Rattle.mx_request.specs.Steps.{when}
use Rattle.mx_request.specs.WordNumbers.{word_number_of}
use Rattle.mx_request.proofs.FieldLaws.{gate_takes, gate_again, gate_free, word_number_takes, word_number_again}
use Rattle.mx_request.proofs.RuleLaws.{cut_none, unless_ok}
use Rattle.mx_request.proofs.StepLaws.{both, both_hold, no_fault, faultless, some_is, bind_some, when_some, same_bytes}

-- two pieces of a text that was cut
pieces : (byte : ℕ) (a b text x y : List ℕ) → text ≡ x ++ byte ∷ y → a ≡ x → b ≡ y → a ++ byte ∷ b ≡ text
pieces byte a b text x y e f g = rw (e, f, g) refl

-- a definition
definition_is : (d : List ℕ × ℕ) → definition_text d ≡ codes "d:" ++ (d.0 ++ 58 ∷ octal d.1)
definition_is d = ap (λ xs. codes "d:" ++ xs) (append_assoc d.0 (codes ":") (octal d.1))

definition_takes : (text : List ℕ) (d : List ℕ × ℕ) → definition_at text ≡ Some d
    → (d.0 ++ 58 ∷ octal d.1 ≡ text) × (is_definition d ≡ true)
definition_takes text d e =
    let p = bind_some (cut_at 58 text) _ d e in
    let symbol = bind_some (name_of p.0.0) _ d p.2 in
    let word = bind_some (word_number_of p.0.1) _ d symbol.2 in
    let a = name_takes p.0.0 symbol.0 symbol.1 in
    let b = word_number_takes p.0.1 word.0 word.1 in
    subst (λ (d : List ℕ × ℕ). (d.0 ++ 58 ∷ octal d.1 ≡ text) × (is_definition d ≡ true)) (some_is _ _ word.2) (
      pieces 58 symbol.0 (octal word.0) text p.0.0 p.0.1 (cut_takes 58 text p.0 p.1).0 a.0 b.0,
      both_hold _ _ (no_fault (name_fault symbol.0) a.1) b.1,
    )

definition_again : (d : List ℕ × ℕ) → is_definition d ≡ true → definition_at (d.0 ++ 58 ∷ octal d.1) ≡ Some d
definition_again d e =
    let f = both (is_name d.0) (nat_le d.1 16383) e in
    let symbol = faultless (name_fault d.0) f.0 in
    rw (cut_again 58 d.0 (octal d.1) (name_is_free 58 d.0 refl symbol), name_again d.0 symbol, word_number_again d.1 f.1) refl

pub definition_free : (byte : ℕ) (d : List ℕ × ℕ) → is_name_byte byte ≡ false → is_octal_digit byte ≡ false → (58 == byte) ≡ false
    → is_definition d ≡ true → is_free byte (definition_text d) ≡ true
definition_free byte d no_name no_octal no_colon e =
    let f = both (is_name d.0) (nat_le d.1 16383) e in
    let label : is_free byte (codes "d") ≡ true = all_free is_name_byte byte (codes "d") no_name refl in
    let number : is_free byte (octal d.1) ≡ true = all_free is_octal_digit byte (octal d.1) no_octal (octal_has_digits d.1) in
    let symbol : is_free byte d.0 ≡ true = name_is_free byte d.0 no_name (faultless (name_fault d.0) f.0) in
    let colon : is_free byte (58 ∷ octal d.1) ≡ true = rw (no_colon, number) refl in
    let said : is_free byte (d.0 ++ 58 ∷ octal d.1) ≡ true = list_all-append _ d.0 (58 ∷ octal d.1) ∙ both_hold _ _ symbol colon in
    let behind : is_free byte (58 ∷ (d.0 ++ 58 ∷ octal d.1)) ≡ true = rw (no_colon, said) refl in
    ap (is_free byte) (definition_is d) ∙ list_all-append (λ c. not (c == byte)) (codes "d") (58 ∷ (d.0 ++ 58 ∷ octal d.1)) ∙ both_hold _ _ label behind

-- a link
link_is : (l : List ℕ × List ℕ) → link_text l ≡ codes "l:" ++ (l.0 ++ 36 ∷ l.1)
link_is l = ap (λ xs. codes "l:" ++ xs) (append_assoc l.0 (codes "$") l.1)

link_takes : (text : List ℕ) (l : List ℕ × List ℕ) → object_link_at text ≡ Some l → (l.0 ++ 36 ∷ l.1 ≡ text) × (is_link l ≡ true)
link_takes text l e =
    let p = bind_some (cut_at 36 text) _ l e in
    let name = bind_some (name_of p.0.0) _ l p.2 in
    let symbol = bind_some (name_of p.0.1) _ l name.2 in
    let a = name_takes p.0.0 name.0 name.1 in
    let b = name_takes p.0.1 symbol.0 symbol.1 in
    subst (λ (l : List ℕ × List ℕ). (l.0 ++ 36 ∷ l.1 ≡ text) × (is_link l ≡ true)) (some_is _ _ symbol.2) (
      pieces 36 name.0 symbol.0 text p.0.0 p.0.1 (cut_takes 36 text p.0 p.1).0 a.0 b.0,
      both_hold _ _ (no_fault (name_fault name.0) a.1) (no_fault (name_fault symbol.0) b.1),
    )

link_again : (l : List ℕ × List ℕ) → is_link l ≡ true → object_link_at (l.0 ++ 36 ∷ l.1) ≡ Some l
link_again l e =
    let f = both (is_name l.0) (is_name l.1) e in
    let name = faultless (name_fault l.0) f.0 in
    rw (cut_again 36 l.0 l.1 (name_is_free 36 l.0 refl name), name_again l.0 name, name_again l.1 (faultless (name_fault l.1) f.1)) refl

pub link_free : (byte : ℕ) (l : List ℕ × List ℕ) → is_name_byte byte ≡ false → (58 == byte) ≡ false → (36 == byte) ≡ false
    → is_link l ≡ true → is_free byte (link_text l) ≡ true
link_free byte l no_name no_colon no_dollar e =
    let f = both (is_name l.0) (is_name l.1) e in
    let label : is_free byte (codes "l") ≡ true = all_free is_name_byte byte (codes "l") no_name refl in
    let name : is_free byte l.0 ≡ true = name_is_free byte l.0 no_name (faultless (name_fault l.0) f.0) in
    let symbol : is_free byte l.1 ≡ true = name_is_free byte l.1 no_name (faultless (name_fault l.1) f.1) in
    let dollar : is_free byte (36 ∷ l.1) ≡ true = rw (no_dollar, symbol) refl in
    let said : is_free byte (l.0 ++ 36 ∷ l.1) ≡ true = list_all-append _ l.0 (36 ∷ l.1) ∙ both_hold _ _ name dollar in
    let behind : is_free byte (58 ∷ (l.0 ++ 36 ∷ l.1)) ≡ true = rw (no_colon, said) refl in
    ap (is_free byte) (link_is l) ∙ list_all-append (λ c. not (c == byte)) (codes "l") (58 ∷ (l.0 ++ 36 ∷ l.1)) ∙ both_hold _ _ label behind

-- the fields of what was read, and whether a line can say them
abbrev parts_fields : Parts → List (List ℕ)
parts_fields parts = map definition_text parts.definitions ++ map link_text parts.links

abbrev fits_parts : Parts → Bool
fits_parts parts = list_all is_definition parts.definitions && list_all is_link parts.links

-- a field says what comes to the parts
record Adds (parts : Parts) (field : List ℕ) (next : Parts) : Type 0 where
  says : parts_fields next ≡ parts_fields parts ++ field ∷ []
  fits : fits_parts parts ≡ true → fits_parts next ≡ true

no_length : {A : Type 0} (xs : List A) → length xs == 0 ≡ true → xs ≡ []
no_length [] e = refl
no_length (x ∷ xs) e = absurd (grind (arith, nat_tests))

one_definition : (definitions : List (List ℕ × ℕ)) (links : List (List ℕ × List ℕ)) (d : List ℕ × ℕ) (text : List ℕ) → links ≡ []
    → definition_text d ≡ codes "d:" ++ text → is_definition d ≡ true
    → Adds (record { definitions = definitions; links = links }) (codes "d:" ++ text)
    (record { definitions = definitions ++ d ∷ []; links = links })
one_definition definitions links d text none said fits = record {
  says =
      rw (none, append-nil (map definition_text (definitions ++ d ∷ [])), append-nil (map definition_text definitions))
      (map-append definition_text definitions (d ∷ []) ∙ ap (λ field. map definition_text definitions ++ field ∷ []) said);
  fits = λ e.
      let f = both (list_all is_definition definitions) (list_all is_link links) e in
      both_hold _ _ (list_all-append is_definition definitions (d ∷ []) ∙ both_hold _ _ f.0 (both_hold _ _ fits refl)) f.1;
}

one_link : (definitions : List (List ℕ × ℕ)) (links : List (List ℕ × List ℕ)) (l : List ℕ × List ℕ) (text : List ℕ)
    → link_text l ≡ codes "l:" ++ text → is_link l ≡ true
    → Adds (record { definitions = definitions; links = links }) (codes "l:" ++ text)
    (record { definitions = definitions; links = links ++ l ∷ [] })
one_link definitions links l text said fits = record {
  says =
      ap (λ fields. map definition_text definitions ++ fields) (map-append link_text links (l ∷ []))
      ∙ sym (append_assoc (map definition_text definitions) (map link_text links) (link_text l ∷ []))
      ∙ ap (λ field. map definition_text definitions ++ map link_text links ++ field ∷ []) said;
  fits = λ e.
      let f = both (list_all is_definition definitions) (list_all is_link links) e in
      both_hold _ _ f.0 (list_all-append is_link links (l ∷ []) ∙ both_hold _ _ f.1 (both_hold _ _ fits refl));
}

definition_adds : (parts : Parts) (text : List ℕ) (next : Parts) → with_definition parts text ≡ Some next → Adds parts (codes "d:" ++ text) next
definition_adds parts text next e =
    let t = bind_some (when (length parts.links == 0) text) _ next e in
    let none = when_some (length parts.links == 0) text t.0 t.1 in
    let d = bind_some (definition_at t.0) _ next t.2 in
    let said = definition_takes t.0 d.0 d.1 in
    subst (Adds parts (codes "d:" ++ text)) (some_is _ _ d.2)
    (one_definition parts.definitions parts.links d.0 text (no_length parts.links none.0)
    (definition_is d.0 ∙ ap (λ xs. codes "d:" ++ xs) (said.0 ∙ sym none.1)) said.1)

link_adds : (parts : Parts) (text : List ℕ) (next : Parts) → with_link parts text ≡ Some next → Adds parts (codes "l:" ++ text) next
link_adds parts text next e =
    let l = bind_some (object_link_at text) _ next e in
    let said = link_takes text l.0 l.1 in
    subst (Adds parts (codes "l:" ++ text)) (some_is _ _ l.2)
    (one_link parts.definitions parts.links l.0 text (link_is l.0 ∙ ap (λ xs. codes "l:" ++ xs) said.0) said.1)

field_adds : (parts : Parts) (field : List ℕ) (next : Parts) → with_field parts field ≡ Some next → Adds parts field next
field_adds parts field next e =
    let p = bind_some (cut_at 58 field) _ next e in
    by_definition p.0.0 p.0.1 (cut_takes 58 field p.0 p.1).0 (pointwise ◌==◌ p.0.0 (codes "d")) refl p.2
  where
    by_link : (label text : List ℕ) → field ≡ label ++ 58 ∷ text → (test : Bool) → pointwise ◌==◌ label (codes "l") ≡ test
        → cond test (with_link parts text) None ≡ Some next → Adds parts field next
    by_link label text is true t e =
        let same = same_bytes label (codes "l") t in
        let whole : codes "l:" ++ text ≡ field = sym (rw same at is) in
        subst (λ (f : List ℕ). Adds parts f next) whole (link_adds parts text next e)
    by_link label text is false t e = cc

    by_definition : (label text : List ℕ) → field ≡ label ++ 58 ∷ text → (test : Bool) → pointwise ◌==◌ label (codes "d") ≡ test
        → cond test (with_definition parts text) (cond (pointwise ◌==◌ label (codes "l")) (with_link parts text) None) ≡ Some next
        → Adds parts field next
    by_definition label text is true t e =
        let same = same_bytes label (codes "d") t in
        let whole : codes "d:" ++ text ≡ field = sym (rw same at is) in
        subst (λ (f : List ℕ). Adds parts f next) whole (definition_adds parts text next e)
    by_definition label text is false t e = by_link label text is (pointwise ◌==◌ label (codes "l")) refl e

-- the fields of a text say what comes to the parts
record AddsAll (parts : Parts) (text : List ℕ) (final : Parts) : Type 0 where
  fields : List (List ℕ)
  behind : (field : List ℕ) → line_of (field ∷ fields) ≡ field ++ 32 ∷ text
  are : parts_fields final ≡ parts_fields parts ++ fields
  fit : fits_parts parts ≡ true → fits_parts final ≡ true

all_add : (left : ℕ) (parts : Parts) (text : List ℕ) (final : Parts) → with_fields left parts text ≡ Some final → AddsAll parts text final
unfolding with_fields
all_add zero parts text final e = cc
all_add (suc left) parts text final e = by_cut (cut_at 32 text) refl e (all_add left)
  where
    by_cut : (o : Option (List ℕ × List ℕ)) → cut_at 32 text ≡ o → with_fields_by parts text o (with_fields left) ≡ Some final
        → ((parts : Parts) (text : List ℕ) (final : Parts) → with_fields left parts text ≡ Some final → AddsAll parts text final)
        → AddsAll parts text final
    by_cut None c e later =
        let one = field_adds parts text final e in
        record { fields = text ∷ []; behind = λ field. refl; are = one.says; fit = one.fits }
    by_cut (Some p) c e later =
        let next = bind_some (with_field parts p.0) _ final e in
        let one = field_adds parts p.0 next.0 next.1 in
        let more = later next.0 p.1 final next.2 in
        record {
          fields = p.0 ∷ more.fields;
          behind = λ field. ap (λ xs. field ++ 32 ∷ xs) (more.behind p.0 ∙ sym (cut_takes 32 text p c).0);
          are = more.are ∙ ap (λ xs. xs ++ more.fields) one.says ∙ append_assoc (parts_fields parts) (p.0 ∷ []) more.fields;
          fit = λ fits. more.fit (one.fits fits);
        }

-- what was read of a map
pub record IsObject (text : List ℕ) (object : PlainObjectMap) : Type 0 where
  pub spelled : line_of (object_fields object) ≡ text
  pub fits : fits_object object ≡ true

pub object_takes : (text : List ℕ) (object : PlainObjectMap) → object_at text ≡ Some object → IsObject text object
object_takes text object e = by_cut (cut_at 32 text) refl e
  where
    whole : (gate : ℕ) (parts : Parts) (front rest : List ℕ) → text ≡ front ++ 32 ∷ rest → decimal gate ≡ front → nat_le gate 9999 ≡ true
        → AddsAll no_parts rest parts
        → map_fault (record { gate = gate; definitions = parts.definitions; links = parts.links }) ≡ None
        → IsObject text (record { gate = gate; definitions = parts.definitions; links = parts.links })
    whole gate parts front rest cut spelled few all fault =
        let f = both (list_all is_definition parts.definitions) (list_all is_link parts.links) (all.fit refl) in
        record {
          spelled = ap (λ fields. line_of (decimal gate ∷ fields)) all.are ∙ all.behind (decimal gate) ∙ ap (λ xs. xs ++ 32 ∷ rest) spelled ∙ sym cut;
          fits = both_hold _ _ few (both_hold _ _ f.0 (both_hold _ _ f.1 (no_fault _ fault)));
        }

    by_cut : (o : Option (List ℕ × List ℕ)) → cut_at 32 text ≡ o → object_by text o ≡ Some object → IsObject text object
    by_cut None c e =
        let gate = bind_some (decimal_number 4 text) _ object e in
        let a = gate_takes text gate.0 gate.1 in
        subst (IsObject text) (some_is _ _ gate.2) (record { spelled = a.0; fits = both_hold _ _ a.1 refl })
    by_cut (Some p) c e =
        let gate = bind_some (decimal_number 4 p.0) _ object e in
        let parts = bind_some (with_fields 128 no_parts p.1) _ object gate.2 in
        let a = gate_takes p.0 gate.0 gate.1 in
        let object : PlainObjectMap = record { gate = gate.0; definitions = parts.0.definitions; links = parts.0.links } in
        let made = unless_ok (map_fault object) object _ parts.2 in
        subst (IsObject text) made.1
        (whole gate.0 parts.0 p.0 p.1 (cut_takes 32 text p c).0 a.0 a.1 (all_add 128 no_parts p.1 parts.0 parts.1) made.0)

-- a field that fits is read back
one_definition_again : (have : List (List ℕ × ℕ)) (d : List ℕ × ℕ) → is_definition d ≡ true
    → with_field (record { definitions = have; links = [] }) (definition_text d) ≡ Some (record { definitions = have ++ d ∷ []; links = [] })
one_definition_again have d e =
    ap (with_field (record { definitions = have; links = [] })) (definition_is d)
    ∙ rw (cut_again 58 (codes "d") (d.0 ++ 58 ∷ octal d.1) refl, definition_again d e) refl

one_link_again : (definitions : List (List ℕ × ℕ)) (have : List (List ℕ × List ℕ)) (l : List ℕ × List ℕ) → is_link l ≡ true
    → with_field (record { definitions = definitions; links = have }) (link_text l)
    ≡ Some (record { definitions = definitions; links = have ++ l ∷ [] })
one_link_again definitions have l e =
    ap (with_field (record { definitions = definitions; links = have })) (link_is l)
    ∙ rw (cut_again 58 (codes "l") (l.0 ++ 36 ∷ l.1) refl, link_again l e) refl

blank_free_definition : (d : List ℕ × ℕ) → is_definition d ≡ true → is_free 32 (definition_text d) ≡ true
blank_free_definition d e = definition_free 32 d refl refl refl e

blank_free_link : (l : List ℕ × List ℕ) → is_link l ≡ true → is_free 32 (link_text l) ≡ true
blank_free_link l e = link_free 32 l refl refl refl e

-- links are read back
links_again : (left : ℕ) (definitions : List (List ℕ × ℕ)) (have links : List (List ℕ × List ℕ)) → 1 ≤ length links → length links ≤ left
    → list_all is_link links ≡ true
    → with_fields left (record { definitions = definitions; links = have }) (line_of (map link_text links))
    ≡ Some (record { definitions = definitions; links = have ++ links })
unfolding with_fields
links_again left definitions have [] some most fit = absurd (omega arith)
links_again zero definitions have (l ∷ links) some most fit = absurd (omega arith)
links_again (suc left) definitions have (l ∷ []) some most fit =
    let f = both (is_link l) true fit in
    rw (cut_none 32 (link_text l) (blank_free_link l f.0), one_link_again definitions have l f.0) refl
links_again (suc left) definitions have (l ∷ next ∷ links) some most fit =
    let f = both (is_link l) (list_all is_link (next ∷ links)) fit in
    rw (
      cut_again 32 (link_text l) (line_of (map link_text (next ∷ links))) (blank_free_link l f.0),
      one_link_again definitions have l f.0,
      links_again left definitions (have ++ l ∷ []) (next ∷ links) (omega arith) (omega arith) f.1,
    ) (ap (λ xs. Some (record { definitions = definitions; links = xs })) (append_assoc have (l ∷ []) (next ∷ links)))

-- definitions and the links behind them are read back
parts_again : (left : ℕ) (have definitions : List (List ℕ × ℕ)) (links : List (List ℕ × List ℕ)) → 1 ≤ length definitions + length links
    → length definitions + length links ≤ left → list_all is_definition definitions ≡ true → list_all is_link links ≡ true
    → with_fields left (record { definitions = have; links = [] }) (line_of (map definition_text definitions ++ map link_text links))
    ≡ Some (record { definitions = have ++ definitions; links = links })
unfolding with_fields
parts_again left have [] links some most fit fit_links =
    links_again left have [] links (omega arith) (omega arith) fit_links ∙ ap (λ xs. Some (record { definitions = xs; links = links })) (sym (append-nil have))
parts_again zero have (d ∷ definitions) links some most fit fit_links = absurd (omega arith)
parts_again (suc left) have (d ∷ []) [] some most fit fit_links =
    let f = both (is_definition d) true fit in
    rw (cut_none 32 (definition_text d) (blank_free_definition d f.0), one_definition_again have d f.0) refl
parts_again (suc left) have (d ∷ []) (l ∷ links) some most fit fit_links =
    let f = both (is_definition d) true fit in
    rw (
      cut_again 32 (definition_text d) (line_of (map link_text (l ∷ links))) (blank_free_definition d f.0),
      one_definition_again have d f.0,
      links_again left (have ++ d ∷ []) [] (l ∷ links) (omega arith) (omega arith) fit_links,
    ) refl
parts_again (suc left) have (d ∷ next ∷ definitions) links some most fit fit_links =
    let f = both (is_definition d) (list_all is_definition (next ∷ definitions)) fit in
    rw (
      cut_again 32 (definition_text d) (line_of (map definition_text (next ∷ definitions) ++ map link_text links)) (blank_free_definition d f.0),
      one_definition_again have d f.0,
      parts_again left (have ++ d ∷ []) (next ∷ definitions) links (omega arith) (omega arith) f.1 fit_links,
    ) (ap (λ xs. Some (record { definitions = xs; links = links })) (append_assoc have (d ∷ []) (next ∷ definitions)))

-- a map without a fault has few definitions and links
few_parts : (twice : Bool) (n m : ℕ) → cond twice (Some Twice) (cond (nat_lt 64 n || nat_lt 64 m) (Some TooMany) None) ≡ None
    → n + m ≤ 128
few_parts true n m e = cc
few_parts false n m e = by_test (nat_lt 64 n) (nat_lt 64 m) refl refl e
  where
    by_test : (a b : Bool) → nat_lt 64 n ≡ a → nat_lt 64 m ≡ b → ◌≡◌ {A = Option ObjectError} (cond (a || b) (Some TooMany) None) None
        → n + m ≤ 128
    by_test true b s t e = cc
    by_test false true s t e = cc
    by_test false false s t e = grind (arith, nat_tests)

-- a map that fits is read back
pub object_again : (object : PlainObjectMap) → fits_object object ≡ true → object_at (line_of (object_fields object)) ≡ Some object
object_again object e =
    let f = both (nat_le object.gate 9999) (list_all is_definition object.definitions && (list_all is_link object.links && is_none (map_fault object))) e in
    let g = both (list_all is_definition object.definitions) (list_all is_link object.links && is_none (map_fault object)) f.1 in
    let h = both (list_all is_link object.links) (is_none (map_fault object)) g.1 in
    by_parts object.gate object.definitions object.links f.0 g.0 h.0 (faultless (map_fault object) h.1)
  where
    behind : (gate : ℕ) (definitions : List (List ℕ × ℕ)) (links : List (List ℕ × List ℕ)) (next : List ℕ) (more : List (List ℕ))
        → map definition_text definitions ++ map link_text links ≡ next ∷ more → 1 ≤ length definitions + length links
        → nat_le gate 9999 ≡ true → list_all is_definition definitions ≡ true → list_all is_link links ≡ true
        → map_fault (record { gate = gate; definitions = definitions; links = links }) ≡ None
        → object_at (decimal gate ++ 32 ∷ line_of (next ∷ more)) ≡ Some (record { gate = gate; definitions = definitions; links = links })
    behind gate definitions links next more are some few fit fit_links fault =
        let most = few_parts (has_twice (symbols_of definitions)) (length definitions) (length links) fault in
        let again : with_fields 128 no_parts (line_of (next ∷ more)) ≡ Some (record { definitions = definitions; links = links }) =
        ap (λ fields. with_fields 128 no_parts (line_of fields)) (sym are) ∙ parts_again 128 [] definitions links some most fit fit_links in
        rw (cut_again 32 (decimal gate) (line_of (next ∷ more)) (gate_free 32 gate refl few), gate_again gate few, again, fault) refl

    by_parts : (gate : ℕ) (definitions : List (List ℕ × ℕ)) (links : List (List ℕ × List ℕ)) → nat_le gate 9999 ≡ true
        → list_all is_definition definitions ≡ true → list_all is_link links ≡ true
        → map_fault (record { gate = gate; definitions = definitions; links = links }) ≡ None
        → object_at (line_of (object_fields (record { gate = gate; definitions = definitions; links = links })))
        ≡ Some (record { gate = gate; definitions = definitions; links = links })
    by_parts gate [] [] few fit fit_links fault = rw (cut_none 32 (decimal gate) (gate_free 32 gate refl few), gate_again gate few) refl
    by_parts gate [] (l ∷ links) few fit fit_links fault =
        behind gate [] (l ∷ links) (link_text l) (map link_text links) refl (omega arith) few fit fit_links fault
    by_parts gate (d ∷ definitions) links few fit fit_links fault =
        behind gate (d ∷ definitions) links (definition_text d) (map definition_text definitions ++ map link_text links) refl (omega arith) few
        fit fit_links fault

-- bytes that no field of a map has
definitions_free : (byte : ℕ) (definitions : List (List ℕ × ℕ)) → is_name_byte byte ≡ false → is_octal_digit byte ≡ false → (58 == byte) ≡ false
    → list_all is_definition definitions ≡ true → list_all (is_free byte) (map definition_text definitions) ≡ true
definitions_free byte [] no_name no_octal no_colon e = refl
definitions_free byte (d ∷ definitions) no_name no_octal no_colon e =
    let f = both (is_definition d) (list_all is_definition definitions) e in
    both_hold _ _ (definition_free byte d no_name no_octal no_colon f.0) (definitions_free byte definitions no_name no_octal no_colon f.1)

links_free : (byte : ℕ) (links : List (List ℕ × List ℕ)) → is_name_byte byte ≡ false → (58 == byte) ≡ false → (36 == byte) ≡ false
    → list_all is_link links ≡ true → list_all (is_free byte) (map link_text links) ≡ true
links_free byte [] no_name no_colon no_dollar e = refl
links_free byte (l ∷ links) no_name no_colon no_dollar e =
    let f = both (is_link l) (list_all is_link links) e in
    both_hold _ _ (link_free byte l no_name no_colon no_dollar f.0) (links_free byte links no_name no_colon no_dollar f.1)

pub object_free : (byte : ℕ) (object : PlainObjectMap) → is_name_byte byte ≡ false → is_digit byte ≡ false → is_octal_digit byte ≡ false
    → (58 == byte) ≡ false → (36 == byte) ≡ false → fits_object object ≡ true → list_all (is_free byte) (object_fields object) ≡ true
object_free byte object no_name no_digit no_octal no_colon no_dollar e =
    let f = both (nat_le object.gate 9999) (list_all is_definition object.definitions && (list_all is_link object.links && is_none (map_fault object))) e in
    let g = both (list_all is_definition object.definitions) (list_all is_link object.links && is_none (map_fault object)) f.1 in
    let h = both (list_all is_link object.links) (is_none (map_fault object)) g.1 in
    both_hold _ _ (gate_free byte object.gate no_digit f.0)
    (list_all-append _ (map definition_text object.definitions) (map link_text object.links)
    ∙ both_hold _ _ (definitions_free byte object.definitions no_name no_octal no_colon g.0)
    (links_free byte object.links no_name no_colon no_dollar h.0))

-- the fields read so far, and those of the rest
one_less : (k : ℕ) → k < 128 → 128 - k ≡ suc (128 - (k + 1))
one_less k low = omega arith

pub fields_on : (parts next : Parts) (k : ℕ) (text : List ℕ) (p : List ℕ × List ℕ) (added : Bool) → k < 128 → cut_at 32 text ≡ Some p
    → added ≡ true → when added next ≡ with_field parts p.0 → with_fields (128 - k) parts text ≡ with_fields (128 - (k + 1)) next p.1
unfolding with_fields
fields_on parts next k text p added low c is e = rw (one_less k low, c, ← e, is) refl

pub no_field : (parts next : Parts) (k : ℕ) (text : List ℕ) (p : List ℕ × List ℕ) (added : Bool) → k < 128 → cut_at 32 text ≡ Some p
    → added ≡ false → when added next ≡ with_field parts p.0 → with_fields (128 - k) parts text ≡ None
unfolding with_fields
no_field parts next k text p added low c is e = rw (one_less k low, c, ← e, is) refl

pub fields_end : (parts next : Parts) (k : ℕ) (text : List ℕ) (added : Bool) → k < 128 → cut_at 32 text ≡ None
    → added ≡ true → when added next ≡ with_field parts text → with_fields (128 - k) parts text ≡ Some next
unfolding with_fields
fields_end parts next k text added low c is e = rw (one_less k low, c, ← e, is) refl

pub no_last_field : (parts next : Parts) (k : ℕ) (text : List ℕ) (added : Bool) → k < 128 → cut_at 32 text ≡ None
    → added ≡ false → when added next ≡ with_field parts text → with_fields (128 - k) parts text ≡ None
unfolding with_fields
no_last_field parts next k text added low c is e = rw (one_less k low, c, ← e, is) refl

pub no_fields_left : (parts : Parts) (text : List ℕ) → with_fields 0 parts text ≡ None
unfolding with_fields
no_fields_left parts text = refl
