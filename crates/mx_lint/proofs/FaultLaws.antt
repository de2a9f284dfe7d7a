-- Laws on the faults of lines.
use Rattle.std.proofs.Common.{◌≡◌, ◌⊎◌, ◌≤◌, ◌-◌, ℕ, Bool, true, List, [], ◌∷◌, ◌++◌, length, map, Option, None, Some, Result, Ok, Err, IfOk, inl, inr, refl, sym, ap, ◌∙◌, subst, arith}
use Rattle.std.specs.Option.{MatchOption}
use Rattle.std.proofs.lemmas.List.{length-map}
use Rattle.mx_lint.specs.Fields.{is_definition_text, is_object_link_text}
use Rattle.mx_lint.specs.Forms.{fields_of}
use Rattle.mx_lint.specs.Lines.{is_last, without_lines}
use Rattle.mx_lint.specs.Places.{place_behind}
use Rattle.mx_lint.specs.Versions.{version_said}
use Rattle.mx_lint.specs.declared.places.Place.{Place}
use Rattle.mx_lint.specs.Objects.{AreItems, symbol_of}
use Rattle.mx_lint.specs.Faults.{IsFault, IsOneMore, IsBehindItems, HasItems, are_read}
use Rattle.mx_lint.specs.Findings.{AreAllItems, HasRead, IsFaultBehind, IsFieldFault, IsItemFault}
use Rattle.mx_lint.specs.declared.faults.Fault.{Fault}
use Rattle.mx_lint.specs.declared.faults.Fault.TheVariants.{TextEnds, NoNewline, Empty, CarriageReturn, Space, UnknownWord, Order as OrderFault, Missing, Wrong, Extra, DefinitionBehindLink, DefinedTwice, Unexplained}
use Rattle.mx_lint.specs.declared.forms.Form.{Form}
use Rattle.mx_lint.specs.declared.forms.Form.TheVariants as kind

-- what is found by one rule is found by another
pub found_so : {E : Type 0} (N M : Type 0) (P Q : Fault → Type 0) → (N → M) → ((fault : Fault) → P fault → Q fault)
    → (r : Result (Option Fault) E) → IfOk r (λ found. MatchOption found N P) → IfOk r (λ found. MatchOption found M Q)
found_so N M P Q none some (Ok None) h = none h
found_so N M P Q none some (Ok (Some fault)) h = some fault h
found_so N M P Q none some (Err e) h = tt

-- the line stands where the lines before it make it stand
pub diagnosed : (spelled rest line : List ℕ) (number lines version : ℕ) (place : Place) (ends : Bool) (fault : Fault) → lines ≡ number - 1
    → place ≡ place_behind lines spelled → rest ≡ without_lines lines spelled → version ≡ version_said spelled → ends ≡ is_last rest
    → IsFault place version line ends fault
    → IsFault (place_behind (number - 1) spelled) (version_said spelled) line (is_last (without_lines (number - 1) spelled)) fault
diagnosed spelled rest line number lines version place ends fault l p r v e h =
    subst (λ (n : ℕ). IsFault (place_behind n spelled) (version_said spelled) line (is_last (without_lines n spelled)) fault) l
    (subst (λ (q : Place). IsFault q (version_said spelled) line (is_last (without_lines lines spelled)) fault) p
    (subst (λ (n : ℕ). IsFault place n line (is_last (without_lines lines spelled)) fault) v
    (subst (λ (b : Bool). IsFault place version line b fault) (e ∙ ap is_last r) h)))

one_more_of : (definitions links : List (List ℕ)) (text : List ℕ) → AreItems definitions links
    → ((is_definition_text text ≡ true) × (64 ≤ length (map symbol_of definitions))) ⊎ ((is_object_link_text text ≡ true) × (64 ≤ length links))
    → IsOneMore definitions links text
one_more_of definitions links text items (inl h) = inl (h.0, omega (arith, h.1, items.few_definitions, length-map definitions symbol_of))
one_more_of definitions links text items (inr h) = inr (h.0, omega (arith, h.1, items.few_links))

no_links : (links : List (List ℕ)) → length links ≡ 0 → links ≡ []
no_links [] e = refl
no_links (link ∷ links) e = absurd (omega (arith, e))

-- where the row of an object is read
module _ (form : Form) (texts left : List (List ℕ)) (object : form ≡ kind.CreateObject) (h : HasRead (fields_of form) texts left) where
  row_read : are_read (fields_of kind.CreateObject) h.before ≡ true
  row_read = subst (λ (f : Form). are_read (fields_of f) h.before ≡ true) object h.read

  behind_items : (text : List ℕ) (definitions links behind : List (List ℕ)) → left ≡ definitions ++ (links ++ text ∷ behind)
      → AreItems definitions links → IsBehindItems definitions links text texts
  behind_items text definitions links behind e are = record {
    before = h.before;
    behind = behind;
    texts_are = h.texts_are ∙ ap (λ (l : List (List ℕ)). h.before ++ l) e;
    read = row_read;
    items = are;
  }

  -- nothing is wrong behind it
  pub all_items : AreAllItems left → HasItems form texts
  all_items all = record {
    object = object;
    before = h.before;
    definitions = all.definitions;
    links = all.links;
    texts_are = h.texts_are ∙ ap (λ (l : List (List ℕ)). h.before ++ l) all.texts_are;
    read = row_read;
    items = all.items;
  }

  -- what is found behind it is found in the fields of the line
  pub of_items : (fault : Fault) → IsFaultBehind left fault → IsFieldFault form texts fault
  of_items fault f = on fault f.definitions f.links f.text f.found (behind_items f.text f.definitions f.links f.behind f.texts_are f.items)
    where
      on : (fault : Fault) (definitions links : List (List ℕ)) (text : List ℕ) → IsItemFault (map symbol_of definitions) (length links) text fault
          → IsBehindItems definitions links text texts → IsFieldFault form texts fault
      on (Wrong named field said) definitions links text found place = (
        found.0 ∙ sym object,
        inr (record {
          object = object;
          definitions = definitions;
          links = links;
          place = rw found.1 place;
          field_is = rw found.1 found.2;
          wrong = rw found.1 found.3;
        }),
      )
      on (Extra named said) definitions links text found place = (
        found.0 ∙ sym object,
        inr (record {
          object = object;
          definitions = definitions;
          links = links;
          place = rw found.1 place;
          one_more = rw found.1 (one_more_of definitions links text place.items found.2);
        }),
      )
      on (DefinitionBehindLink said) definitions links text found place = (
        object,
        record { definitions = definitions; links = links; place = rw found.0 place; definition = rw found.0 found.1; link = found.2 },
      )
      on (DefinedTwice symbol) definitions links text found place = (
        object,
        record {
          definitions = definitions;
          text = text;
          place = subst (λ (l : List (List ℕ)). IsBehindItems definitions l text texts) (no_links links found.2) place;
          definition = found.1;
          symbol_is = found.0;
          defined = found.3;
        },
      )
      on (Missing named field) definitions links text found place = absurd found
      on (TextEnds at) definitions links text found place = absurd found
      on NoNewline definitions links text found place = absurd found
      on Empty definitions links text found place = absurd found
      on CarriageReturn definitions links text found place = absurd found
      on (Space space) definitions links text found place = absurd found
      on (UnknownWord word) definitions links text found place = absurd found
      on (OrderFault named order) definitions links text found place = absurd found
      on Unexplained definitions links text found place = absurd found
