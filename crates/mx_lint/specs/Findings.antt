-- Helpers that only private contracts cite: what is found in the fields of a line, and in what stands behind the row of an object.
use Rattle.std.specs.Prelude.{◌≡◌, ◌⊎◌, ◌≤◌, ◌<◌, ℕ, ◌+◌, Bool, true, false, List, [], ◌∷◌, ◌++◌, length, map, Option, None, Some}
use Rattle.std.specs.List.{list_any}
use Rattle.mx_lint.specs.Faults.{IsFault, IsMissing, IsWrongField, IsWrongItem, IsBehindRow, IsItemTooMany, IsBehindLink, IsDefinedTwice, are_read}
use Rattle.mx_lint.specs.Objects.{AreItems, item_field, symbol_of}
use Rattle.mx_lint.specs.Fields.{is, is_field, is_definition_text, is_object_link_text}
use Rattle.mx_lint.specs.declared.faults.Fault.{Fault}
use Rattle.mx_lint.specs.declared.faults.Fault.TheVariants.{Missing, Wrong, Extra, DefinitionBehindLink, DefinedTwice}
use Rattle.mx_lint.specs.declared.fields.Field.{Field}
use Rattle.mx_lint.specs.declared.forms.Form.{Form}
use Rattle.mx_lint.specs.declared.forms.Form.TheVariants as kind
use Rattle.mx_lint.specs.Orders.{is_out_of_place}
use Rattle.mx_lint.specs.declared.forms.Group.{Group}
use Rattle.mx_lint.specs.declared.orders.Order.{Order}
use Rattle.mx_lint.specs.declared.places.Place.{Place}

-- why a line of this group cannot stand at this place; where there is no reason, none stands against it
abbrev pub IsWhyNot : Place → Group → Option Order → Type 0
IsWhyNot place group None = (order : Order) → is_out_of_place order place group ≡ false
IsWhyNot place group (Some order) = is_out_of_place order place group ≡ true

-- whether or not the text ends with the line
abbrev pub IsFaultIn : Place → ℕ → List ℕ → Fault → Type 0
IsFaultIn place version line fault = (ends : Bool) → IsFault place version line ends fault

-- in the texts behind the word of a line of this kind
abbrev pub IsFieldFault : Form → List (List ℕ) → Fault → Type 0
IsFieldFault form texts (Missing named field) = (named ≡ form) × IsMissing form field texts
IsFieldFault form texts (Wrong named field text) = (named ≡ form) × (IsWrongField form field text.now texts ⊎ IsWrongItem form field text.now texts)
IsFieldFault form texts (Extra named text) = (named ≡ form) × (IsBehindRow form text.now texts ⊎ IsItemTooMany form text.now texts)
IsFieldFault form texts (DefinitionBehindLink text) = (form ≡ kind.CreateObject) × IsBehindLink text.now texts
IsFieldFault form texts (DefinedTwice symbol) = (form ≡ kind.CreateObject) × IsDefinedTwice symbol.now texts
IsFieldFault form texts other = ⊥

-- in a text behind definitions of these symbols and so many links
abbrev pub IsItemFault : List (List ℕ) → ℕ → List ℕ → Fault → Type 0
IsItemFault symbols links text (Wrong form field said) =
    (form ≡ kind.CreateObject) × (said.now ≡ text) × (field ≡ item_field text) × (is_field field text ≡ false)
IsItemFault symbols links text (Extra form said) =
    (form ≡ kind.CreateObject) × (said.now ≡ text)
    × (((is_definition_text text ≡ true) × (64 ≤ length symbols)) ⊎ ((is_object_link_text text ≡ true) × (64 ≤ links)))
IsItemFault symbols links text (DefinitionBehindLink said) = (said.now ≡ text) × (is_definition_text text ≡ true) × (1 ≤ links)
IsItemFault symbols links text (DefinedTwice symbol) =
    (symbol.now ≡ symbol_of text) × (is_definition_text text ≡ true) × (links ≡ 0) × (list_any (λ other. is other symbol.now) symbols ≡ true)
IsItemFault symbols links text other = ⊥

-- one more definition was seen, or one more link
pub record IsDefinitionSeen (symbols symbols' : List (List ℕ)) (links links' : ℕ) (text : List ℕ) : Type 0 where
  pub definition : is_definition_text text ≡ true
  pub no_link : links ≡ 0
  pub new_one : list_any (λ other. is other (symbol_of text)) symbols ≡ false
  pub few : length symbols < 64
  pub symbols_are : symbols' ≡ symbols ++ symbol_of text ∷ []
  pub links_are : links' ≡ links

pub record IsLinkSeen (symbols symbols' : List (List ℕ)) (links links' : ℕ) (text : List ℕ) : Type 0 where
  pub link : is_object_link_text text ≡ true
  pub few : links < 64
  pub symbols_are : symbols' ≡ symbols
  pub links_are : links' ≡ links + 1

abbrev pub IsSeenToo : List (List ℕ) → List (List ℕ) → ℕ → ℕ → List ℕ → Type 0
IsSeenToo symbols symbols' links links' text = IsDefinitionSeen symbols symbols' links links' text ⊎ IsLinkSeen symbols symbols' links links' text

-- the texts begin with definitions and links, of these symbols and so many, and these are left
pub record HasSeen (texts symbols : List (List ℕ)) (count : ℕ) (left : List (List ℕ)) : Type 0 where
  pub definitions : List (List ℕ)
  pub links : List (List ℕ)
  pub texts_are : texts ≡ definitions ++ (links ++ left)
  pub symbols_are : symbols ≡ map symbol_of definitions
  pub count_is : count ≡ length links
  pub items : AreItems definitions links

-- in what stands behind the row of an object
pub record IsFaultBehind (texts : List (List ℕ)) (fault : Fault) : Type 0 where
  pub definitions : List (List ℕ)
  pub links : List (List ℕ)
  pub text : List ℕ
  pub behind : List (List ℕ)
  pub texts_are : texts ≡ definitions ++ (links ++ text ∷ behind)
  pub items : AreItems definitions links
  pub found : IsItemFault (map symbol_of definitions) (length links) text fault

-- nothing is wrong there
pub record AreAllItems (texts : List (List ℕ)) : Type 0 where
  pub definitions : List (List ℕ)
  pub links : List (List ℕ)
  pub texts_are : texts ≡ definitions ++ links
  pub items : AreItems definitions links

-- the texts begin with one that can stand in each of these fields, and these are left
pub record HasRead (row : List Field) (texts left : List (List ℕ)) : Type 0 where
  pub before : List (List ℕ)
  pub texts_are : texts ≡ before ++ left
  pub read : are_read row before ≡ true
