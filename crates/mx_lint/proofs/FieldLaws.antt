-- Laws on the fields of a line.
use Rattle.std.proofs.Common.{◌≡◌, ◌<◌, ◌≤◌, ℕ, ◌+◌, ◌==◌, true, false, Bor, List, [], ◌∷◌, ◌++◌, length, take, drop, get_or, Option, Some, None, refl, sym, ap, ◌∙◌, subst, append_assoc, append-nil, arith}
use Rattle.std.specs.List.{count_by}
use Rattle.std.specs.Option.{option_map}
use Rattle.std.proofs.lemmas.List.Splits.{length-slice_split}
use Rattle.mx_name.specs.OrderLaws.{both_left, both_right}
use Rattle.std.proofs.lemmas.List.{take_more, take_all, take-append-drop, drop_more, length-take}
use Rattle.mx_lint.specs.Fields.{is_field}
use Rattle.mx_lint.specs.Forms.{fields_of, least_of}
use Rattle.mx_lint.specs.Orders.{has_class}
use Rattle.mx_lint.specs.Pieces.{pieces_left, pieces_of}
use Rattle.mx_lint.specs.Faults.{are_read, HasFields, IsMissing, IsWrongField}
use Rattle.mx_lint.specs.Findings.{HasRead}
use Rattle.mx_lint.specs.declared.fields.Field.{Field}
use Rattle.mx_lint.specs.declared.forms.Form.{Form}

-- behind a class stands more
more_behind : (principal class : List ℕ) (texts : List (List ℕ)) → 0 < length texts → has_class (principal ∷ class ∷ texts) ≡ false
more_behind principal class [] some = absurd (omega arith)
more_behind principal class (text ∷ texts) some = refl

pub not_alone : (principal text class : List ℕ) (rest : Option (Bor (List ℕ))) (more : Bor (List ℕ)) → rest ≡ Some more
    → pieces_of text ≡ class ∷ pieces_left (option_map (λ (r : Bor (List ℕ)). r.now) rest) → has_class (principal ∷ pieces_of text) ≡ false
not_alone principal text class rest more e f =
    let some : length (pieces_of more.now) ≡ count_by (λ (byte : ℕ). byte == 32) more.now + 1 =
    length-slice_split (λ (byte : ℕ). byte == 32) more.now in
    let pieces : pieces_of text ≡ class ∷ pieces_of more.now =
    f ∙ ap (λ (o : Option (Bor (List ℕ))). class ∷ pieces_left (option_map (λ (r : Bor (List ℕ)). r.now) o)) e in
    ap (λ (t : List (List ℕ)). has_class (principal ∷ t)) pieces ∙ more_behind principal class (pieces_of more.now) (omega (arith, some))

-- the texts that are left are these
pub opened_read : (row : List Field) (texts left : List (List ℕ)) (rest : Option (Bor (List ℕ))) (text : Bor (List ℕ)) → rest ≡ Some text
    → pieces_of text.now ≡ left → HasRead row texts (pieces_left (option_map (λ (r : Bor (List ℕ)). r.now) rest)) → HasRead row texts left
opened_read row texts left rest text e f h =
    subst (HasRead row texts) (ap (λ (o : Option (Bor (List ℕ))). pieces_left (option_map (λ (r : Bor (List ℕ)). r.now) o)) e ∙ f) h

pub ended_read : (row : List Field) (texts : List (List ℕ)) (rest : Option (Bor (List ℕ))) → rest ≡ None
    → HasRead row texts (pieces_left (option_map (λ (r : Bor (List ℕ)). r.now) rest)) → HasRead row texts []
ended_read row texts rest e h =
    subst (HasRead row texts) (ap (λ (o : Option (Bor (List ℕ))). pieces_left (option_map (λ (r : Bor (List ℕ)). r.now) o)) e) h

-- what has its place in a row
in_row : (row : List Field) (i : ℕ) (d : Field) → i < length row → row ≡ take i row ++ get_or row i d ∷ drop (i + 1) row
in_row row i d within = sym (take-append-drop i row) ∙ ap (λ (l : List Field). take i row ++ l) (drop_more row i d within)

length_of_take : (row : List Field) (i : ℕ) → i < length row → length (take i row) ≡ i
length_of_take row i within = omega (arith, length-take {A = Field})

read_more : (row : List Field) (before : List (List ℕ)) (field : Field) (text : List ℕ) → are_read row before ≡ true
    → is_field field text ≡ true → are_read (row ++ field ∷ []) (before ++ text ∷ []) ≡ true
read_more [] [] field text e t = rw t refl
read_more [] (b ∷ before) field text e t = cc
read_more (f ∷ row) [] field text e t = cc
read_more (f ∷ row) (b ∷ before) field text e t =
    rw (both_left (is_field f b) (are_read row before) e, read_more row before field text (both_right (is_field f b) (are_read row before) e) t) refl

-- one field more is read
pub one_read : (row : List Field) (i : ℕ) (d : Field) (texts left : List (List ℕ)) (text : List ℕ) → i < length row
    → HasRead (take i row) texts (text ∷ left) → is_field (get_or row i d) text ≡ true → HasRead (take (i + 1) row) texts left
one_read row i d texts left text within h t = record {
  before = h.before ++ text ∷ [];
  texts_are = h.texts_are ∙ sym (append_assoc h.before (text ∷ []) left);
  read = subst (λ (r : List Field). are_read r (h.before ++ text ∷ []) ≡ true) (sym (take_more row i d within))
      (read_more (take i row) h.before (get_or row i d) text h.read t);
}

-- all are read
pub all_read : (form : Form) (row : List Field) (i : ℕ) (texts left : List (List ℕ)) → row ≡ fields_of form → length row ≤ i
    → HasRead (take i row) texts left → HasRead (fields_of form) texts left
all_read form row i texts left e past h = subst (λ (r : List Field). HasRead r texts left) (take_all i row past ∙ e) h

-- the texts end before this field
pub is_missing : (form : Form) (row : List Field) (i : ℕ) (d : Field) (texts : List (List ℕ)) → row ≡ fields_of form → i < length row
    → i < least_of form → HasRead (take i row) texts [] → IsMissing form (get_or row i d) texts
is_missing form row i d texts e within must h = record {
  passed = take i row;
  others = drop (i + 1) row;
  row = sym e ∙ in_row row i d within;
  must = let long = length_of_take row i within in omega (arith, long, must);
  read = subst (λ (t : List (List ℕ)). are_read (take i row) t ≡ true) (sym (append-nil h.before) ∙ sym h.texts_are) h.read;
}

-- they end where they may
pub may_end : (form : Form) (row : List Field) (i : ℕ) (texts : List (List ℕ)) → row ≡ fields_of form → i < length row
    → least_of form ≤ i → HasRead (take i row) texts [] → HasFields form texts
may_end form row i texts e within enough h = record {
  passed = take i row;
  others = drop i row;
  row = sym e ∙ sym (take-append-drop i row);
  enough = let long = length_of_take row i within in omega (arith, long, enough);
  read = subst (λ (t : List (List ℕ)). are_read (take i row) t ≡ true) (sym (append-nil h.before) ∙ sym h.texts_are) h.read;
}

-- the field cannot have its text
pub is_wrong : (form : Form) (row : List Field) (i : ℕ) (d : Field) (texts left : List (List ℕ)) (text : List ℕ) → row ≡ fields_of form
    → i < length row → HasRead (take i row) texts (text ∷ left) → is_field (get_or row i d) text ≡ false
    → IsWrongField form (get_or row i d) text texts
is_wrong form row i d texts left text e within h t = record {
  passed = take i row;
  others = drop (i + 1) row;
  row = sym e ∙ in_row row i d within;
  before = h.before;
  behind = left;
  texts_are = h.texts_are;
  read = h.read;
  wrong = t;
}
