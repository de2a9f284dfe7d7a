-- What is wrong with a line, and what must be so of it, its place and the version for each fault to be told.
use Rattle.std.specs.Prelude.{◌≡◌, ◌⊎◌, ◌≤◌, ◌<◌, ℕ, ◌-◌, Bool, true, false, ◌&&◌, ◌||◌, List, [], ◌∷◌, ◌++◌, length, get_or, map}
use Rattle.std.specs.List.{list_any}
use Rattle.mx_lint.specs.Fields.{is, is_field, is_definition_text, is_object_link_text}
use Rattle.mx_lint.specs.Forms.{fields_of, least_of, word_of, group_of, IsNoWord}
use Rattle.mx_lint.specs.Objects.{AreItems, item_field, symbol_of}
use Rattle.mx_lint.specs.Orders.{is_out_of_place, is_too_new}
use Rattle.mx_lint.specs.Pieces.{first_piece, pieces_of}
use Rattle.mx_lint.specs.declared.faults.Fault.{Fault}
use Rattle.mx_lint.specs.declared.faults.Fault.TheVariants.{TextEnds, NoNewline, Empty, CarriageReturn, Space as SpaceFault, UnknownWord, Order as OrderFault, Missing, Wrong, Extra, DefinitionBehindLink, DefinedTwice, Unexplained}
use Rattle.mx_lint.specs.declared.faults.Space.{Space}
use Rattle.mx_lint.specs.declared.faults.Space.TheVariants.{Tab, Second, First, Last}
use Rattle.mx_lint.specs.declared.fields.Field.{Field}
use Rattle.mx_lint.specs.declared.forms.Form.{Form}
use Rattle.mx_lint.specs.declared.forms.Form.TheVariants as kind
use Rattle.mx_lint.specs.declared.orders.Order.{Order}
use Rattle.mx_lint.specs.declared.orders.Order.TheVariants.{FirstIsHeader, AfterEnd}
use Rattle.mx_lint.specs.declared.places.Place.{Place}
use Rattle.mx_lint.specs.declared.places.Place.TheVariants.{Start, Ended}

-- this byte stands in this column, counted from 1
pub record StandsIn (line : List ℕ) (column byte : ℕ) : Type 0 where
  pub from : 1 ≤ column
  pub to : column ≤ length line
  pub is : get_or line (column - 1) 0 ≡ byte

-- a tab, or a space where none can stand
abbrev pub IsSpace : List ℕ → Space → Type 0
IsSpace line (Tab column) = StandsIn line column 9
IsSpace line (Second column) = StandsIn line (column - 1) 32 × StandsIn line column 32
IsSpace line First = StandsIn line 1 32
IsSpace line (Last column) = StandsIn line column 32 × (column ≡ length line)

-- a line of this kind, with these texts behind its word
abbrev pub IsLineOf : Form → List (List ℕ) → List ℕ → Type 0
IsLineOf form texts line = pieces_of line ≡ word_of form ∷ texts

-- the line is of this kind, and cannot stand here, or in a session of this version; of another first line than the header, and of one
-- behind `end`, the kind says nothing
abbrev pub IsOutOfOrder : Place → ℕ → List ℕ → Form → Order → Type 0
IsOutOfOrder place version line form FirstIsHeader = (place ≡ Start) × (first_piece line ≡ word_of kind.Header → ⊥)
IsOutOfOrder place version line form AfterEnd = place ≡ Ended
IsOutOfOrder place version line form order =
    (texts : List (List ℕ)) × IsLineOf form texts line
    × (is_out_of_place order place (group_of form) || is_too_new order version form texts ≡ true)

-- no order stands against a line of this kind, with these texts behind its word, at this place and in a session of this version
abbrev pub IsInOrder : Place → ℕ → Form → List (List ℕ) → Type 0
IsInOrder place version form texts = (order : Order) → (is_out_of_place order place (group_of form) || is_too_new order version form texts) ≡ false

-- the line is one of this kind, with these texts behind its word, and can stand here
pub record StandsHere (place : Place) (version : ℕ) (line : List ℕ) (form : Form) (texts : List (List ℕ)) : Type 0 where
  pub line_is : IsLineOf form texts line
  pub in_order : IsInOrder place version form texts

-- each of these fields has a text, and can have it
abbrev pub are_read : List Field → List (List ℕ) → Bool
are_read [] [] = true
are_read [] (text ∷ texts) = false
are_read (field ∷ fields) [] = false
are_read (field ∷ fields) (text ∷ texts) = is_field field text && are_read fields texts

-- the texts end before this field of the row, which must be there; those before it can stand in their fields
pub record IsMissing (form : Form) (field : Field) (texts : List (List ℕ)) : Type 0 where
  pub passed : List Field
  pub others : List Field
  pub row : fields_of form ≡ passed ++ field ∷ others
  pub must : length passed < least_of form
  pub read : are_read passed texts ≡ true

-- this field of the row has this text, and cannot have it; those before it can stand in their fields
pub record IsWrongField (form : Form) (field : Field) (text : List ℕ) (texts : List (List ℕ)) : Type 0 where
  pub passed : List Field
  pub others : List Field
  pub row : fields_of form ≡ passed ++ field ∷ others
  pub before : List (List ℕ)
  pub behind : List (List ℕ)
  pub texts_are : texts ≡ before ++ text ∷ behind
  pub read : are_read passed before ≡ true
  pub wrong : is_field field text ≡ false

-- behind the fields of the row, which all have a text that they can have, stands this, and the kind has no more
pub record IsBehindRow (form : Form) (text : List ℕ) (texts : List (List ℕ)) : Type 0 where
  pub no_object : form ≡ kind.CreateObject → ⊥
  pub before : List (List ℕ)
  pub texts_are : texts ≡ before ++ pieces_of text
  pub read : are_read (fields_of form) before ≡ true

-- behind the row of an object, these definitions and these links stands this text
pub record IsBehindItems (definitions links : List (List ℕ)) (text : List ℕ) (texts : List (List ℕ)) : Type 0 where
  pub before : List (List ℕ)
  pub behind : List (List ℕ)
  pub texts_are : texts ≡ before ++ (definitions ++ (links ++ text ∷ behind))
  pub read : are_read (fields_of kind.CreateObject) before ≡ true
  pub items : AreItems definitions links

-- it is neither
pub record IsWrongItem (form : Form) (field : Field) (text : List ℕ) (texts : List (List ℕ)) : Type 0 where
  pub object : form ≡ kind.CreateObject
  pub definitions : List (List ℕ)
  pub links : List (List ℕ)
  pub place : IsBehindItems definitions links text texts
  pub field_is : field ≡ item_field text
  pub wrong : is_field field text ≡ false

-- a definition or a link behind 64 of its sort
abbrev pub IsOneMore : List (List ℕ) → List (List ℕ) → List ℕ → Type 0
IsOneMore definitions links text =
    ((is_definition_text text ≡ true) × (length definitions ≡ 64)) ⊎ ((is_object_link_text text ≡ true) × (length links ≡ 64))

pub record IsItemTooMany (form : Form) (text : List ℕ) (texts : List (List ℕ)) : Type 0 where
  pub object : form ≡ kind.CreateObject
  pub definitions : List (List ℕ)
  pub links : List (List ℕ)
  pub place : IsBehindItems definitions links text texts
  pub one_more : IsOneMore definitions links text

-- a definition that a link stands before
pub record IsBehindLink (text : List ℕ) (texts : List (List ℕ)) : Type 0 where
  pub definitions : List (List ℕ)
  pub links : List (List ℕ)
  pub place : IsBehindItems definitions links text texts
  pub definition : is_definition_text text ≡ true
  pub link : 1 ≤ length links

-- a definition of this symbol stands behind another one
pub record IsDefinedTwice (symbol : List ℕ) (texts : List (List ℕ)) : Type 0 where
  pub definitions : List (List ℕ)
  pub text : List ℕ
  pub place : IsBehindItems definitions [] text texts
  pub definition : is_definition_text text ≡ true
  pub symbol_is : symbol ≡ symbol_of text
  pub defined : list_any (λ other. is other symbol) (map symbol_of definitions) ≡ true

-- each field that the line has can have its text, and those that must be there are
pub record HasFields (form : Form) (texts : List (List ℕ)) : Type 0 where
  pub passed : List Field
  pub others : List Field
  pub row : fields_of form ≡ passed ++ others
  pub enough : least_of form ≤ length passed
  pub read : are_read passed texts ≡ true

-- behind the fields of an object stand definitions and links as they may
pub record HasItems (form : Form) (texts : List (List ℕ)) : Type 0 where
  pub object : form ≡ kind.CreateObject
  pub before : List (List ℕ)
  pub definitions : List (List ℕ)
  pub links : List (List ℕ)
  pub texts_are : texts ≡ before ++ (definitions ++ links)
  pub read : are_read (fields_of kind.CreateObject) before ≡ true
  pub items : AreItems definitions links

-- nothing is wrong with the line by itself, at its place and in a session of this version
pub record IsRight (place : Place) (version : ℕ) (line : List ℕ) : Type 0 where
  pub form : Form
  pub texts : List (List ℕ)
  pub stands : StandsHere place version line form texts
  pub fields : HasFields form texts ⊎ HasItems form texts

-- row by row; the last one is told of a line that is right by itself
abbrev pub IsFault : Place → ℕ → List ℕ → Bool → Fault → Type 0
IsFault place version line ends (TextEnds at) = (ends ≡ true) × (line ≡ []) × (at ≡ place)
IsFault place version line ends NoNewline = (ends ≡ true) × IsRight place version line
IsFault place version line ends Empty = line ≡ []
IsFault place version line ends CarriageReturn = StandsIn line (length line) 13
IsFault place version line ends (SpaceFault space) = IsSpace line space
IsFault place version line ends (UnknownWord word) = (word.now ≡ first_piece line) × IsNoWord word.now
IsFault place version line ends (OrderFault form order) = IsOutOfOrder place version line form order
IsFault place version line ends (Missing form field) =
    (texts : List (List ℕ)) × StandsHere place version line form texts × IsMissing form field texts
IsFault place version line ends (Wrong form field text) =
    (texts : List (List ℕ)) × StandsHere place version line form texts × (IsWrongField form field text.now texts ⊎ IsWrongItem form field text.now texts)
IsFault place version line ends (Extra form text) =
    (texts : List (List ℕ)) × StandsHere place version line form texts × (IsBehindRow form text.now texts ⊎ IsItemTooMany form text.now texts)
IsFault place version line ends (DefinitionBehindLink text) =
    (texts : List (List ℕ)) × StandsHere place version line kind.CreateObject texts × IsBehindLink text.now texts
IsFault place version line ends (DefinedTwice symbol) =
    (texts : List (List ℕ)) × StandsHere place version line kind.CreateObject texts × IsDefinedTwice symbol.now texts
IsFault place version line ends Unexplained = IsRight place version line
