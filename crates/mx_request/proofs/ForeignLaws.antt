-- Laws of bytes that no line has, such as the newline.
use Rattle.std.proofs.Common.{◌≡◌, ℕ, ◌==◌, nat_le, nat_eq, ltb, true, false, ◌&&◌, List, [], ◌∷◌, ◌++◌, map, length, Option, Some, None, codes, refl, ◌∙◌}
use Rattle.std.proofs.lemmas.List.Folds.{list_all-append}
use Rattle.std.specs.List.{list_all}
use Rattle.mx_name.proofs.TextLaws.{all_free, name_is_free, pathname_is_free, acl_id_is_free}
use Rattle.mx_name.specs.Identifiers.{PlainAclId, acl_id_text, id_fault}
use Rattle.mx_name.specs.Names.{is_free, is_name_byte, name_fault}
use Rattle.mx_name.specs.Pathnames.{pathname_fault, is_pathname_byte}
use Rattle.mx_name.specs.Principals.{is_principal_byte}
use Rattle.mx_acl.proofs.ModesLaws.{modes_is_free}
use Rattle.mx_acl.specs.declared.modes.AclKind.{AclKind}
use Rattle.mx_acl.specs.declared.modes.AclKind.TheVariants.{Segment as OfSegment, Directory as OfDirectory}
use Rattle.mx_search.specs.declared.rules.Rule.{Rule}
use Rattle.mx_request.specs.declared.requests.Request.{Request}
use Rattle.mx_request.specs.declared.requests.Request.TheVariants.{CreateDir, CreateSeg, CreateObject, CreateLink, Rename, Delete, SetAcl, DelAcl, SetIacl, DelIacl, SetBrackets, SetDirBrackets, SetClass, Status, List as ListNames, ChangeWdir, SetRules, Initiate, Terminate, Wakeup, Block, Link, Resume, Logout}
use Rattle.mx_request.specs.declared.reading.kinds.Kind.{Kind}
use Rattle.mx_request.specs.declared.reading.kinds.Kind.TheVariants.{CreateDir as OfCreateDir, CreateSeg as OfCreateSeg, CreateObject as OfCreateObject, CreateLink as OfCreateLink, Rename as OfRename, Delete as OfDelete, SetAcl as OfSetAcl, DelAcl as OfDelAcl, SetIaclSeg as OfSetIaclSeg, SetIaclDir as OfSetIaclDir, DelIaclSeg as OfDelIaclSeg, DelIaclDir as OfDelIaclDir, SetBrackets as OfSetBrackets, SetDirBrackets as OfSetDirBrackets, SetClass as OfSetClass, Status as OfStatus, List as OfList, ChangeWdir as OfChangeWdir, SetRules as OfSetRules, Initiate as OfInitiate, Terminate as OfTerminate, Wakeup as OfWakeup, Link as OfLink}
use Rattle.mx_sdw.specs.Octal.{is_octal_digit}
use Rattle.mx_request.specs.Fields.{line_of, ring_text, is_name}
use Rattle.mx_request.specs.Kinds.{kind_word}
use Rattle.mx_request.specs.Decimals.{is_digit}
use Rattle.mx_request.specs.ObjectTexts.{object_fields, fits_object}
use Rattle.mx_request.specs.RequestTexts.{set_iacl_word, del_iacl_word, request_text, request_fields, rule_text, name_fields, is_pathname, is_name_or_none, is_identifier, is_class, is_ring, is_rule, are_brackets, fits_request}
use Rattle.mx_request.proofs.StepLaws.{both, both_hold, faultless}
use Rattle.mx_request.proofs.FieldLaws.{words_free, ring_free, segno_free}
use Rattle.mx_request.proofs.RuleLaws.{rule_free}
use Rattle.mx_request.proofs.AddressLaws.{address_free}
use Rattle.mx_request.proofs.ObjectLaws.{object_free}
use Rattle.mx_request.proofs.MessageLaws.{message_free}
use Rattle.mx_request.proofs.KindLaws.{kind_bytes}
use Rattle.mx_request.proofs.ClassTexts.{class_free}

-- bytes that no line has: those of no field, and not the blank
pub record IsForeign (byte : ℕ) : Type 0 where
  pub no_name : is_name_byte byte ≡ false
  pub no_pathname : is_pathname_byte byte ≡ false
  pub no_component : is_principal_byte byte ≡ false
  pub no_digit : is_digit byte ≡ false
  pub no_octal_digit : is_octal_digit byte ≡ false
  pub no_bar : (124 == byte) ≡ false
  pub no_colon : (58 == byte) ≡ false
  pub no_dollar : (36 == byte) ≡ false
  pub no_letter : ltb 96 byte ≡ false
  pub no_dot : (46 == byte) ≡ false
  pub no_star : (42 == byte) ≡ false
  pub no_blank : (32 == byte) ≡ false

pub free_append : (byte : ℕ) (xs ys : List ℕ) → is_free byte xs ≡ true → is_free byte ys ≡ true → is_free byte (xs ++ ys) ≡ true
free_append byte xs ys e f = list_all-append _ xs ys ∙ both_hold _ _ e f

-- a line has the bytes of its fields, and blanks
pub line_free : (byte : ℕ) (fields : List (List ℕ)) → (32 == byte) ≡ false → list_all (is_free byte) fields ≡ true → is_free byte (line_of fields) ≡ true
line_free byte [] blank e = refl
line_free byte (x ∷ []) blank e = (both (is_free byte x) true e).0
line_free byte (x ∷ y ∷ fields) blank e =
    let f = both (is_free byte x) (list_all (is_free byte) (y ∷ fields)) e in
    free_append byte x (32 ∷ line_of (y ∷ fields)) f.0 (rw (blank, line_free byte (y ∷ fields) blank f.1) refl)

rings_free : (byte : ℕ) (rings : List ℕ) → is_digit byte ≡ false → list_all is_ring rings ≡ true → list_all (is_free byte) (map ring_text rings) ≡ true
rings_free byte [] other e = refl
rings_free byte (r ∷ rings) other e =
    let f = both (is_ring r) (list_all is_ring rings) e in
    both_hold _ _ (ring_free byte r other f.0) (rings_free byte rings other f.1)

brackets_free : (byte : ℕ) (brackets : List ℕ) → is_digit byte ≡ false → are_brackets brackets ≡ true → list_all (is_free byte) (map ring_text brackets) ≡ true
brackets_free byte brackets other e = rings_free byte brackets other (both (nat_eq (length brackets) 3) (list_all is_ring brackets) e).1

path_fields : (byte : ℕ) → IsForeign byte → (path : List ℕ) → is_pathname path ≡ true → is_free byte path ≡ true
path_fields byte foreign path e = pathname_is_free byte path foreign.no_pathname (faultless (pathname_fault path) e)

word_free : (byte : ℕ) → IsForeign byte → (kind : Kind) → is_free byte (kind_word kind) ≡ true
word_free byte foreign kind = all_free is_name_byte byte (kind_word kind) foreign.no_name (kind_bytes kind)

id_fields : (byte : ℕ) → IsForeign byte → (id : PlainAclId) → is_identifier id ≡ true → is_free byte (acl_id_text id) ≡ true
id_fields byte foreign id e = acl_id_is_free byte id foreign.no_component foreign.no_dot foreign.no_star (faultless (id_fault id) e)

rules_free : (byte : ℕ) → IsForeign byte → (rules : List Rule) → list_all is_rule rules ≡ true → list_all (is_free byte) (map rule_text rules) ≡ true
rules_free byte foreign [] e = refl
rules_free byte foreign (rule ∷ rules) e =
    let f = both (is_rule rule) (list_all is_rule rules) e in
    both_hold _ _ (rule_free byte rule foreign.no_name foreign.no_pathname f.0) (rules_free byte foreign rules f.1)

name_free : (byte : ℕ) → IsForeign byte → (name : Option (List ℕ)) → is_name_or_none name ≡ true → list_all (is_free byte) (name_fields name) ≡ true
name_free byte foreign None e = refl
name_free byte foreign (Some name) e = both_hold _ _ (name_is_free byte name foreign.no_name (faultless (name_fault name) e)) refl

set_word_free : (byte : ℕ) → IsForeign byte → (kind : AclKind) → is_free byte (set_iacl_word kind) ≡ true
set_word_free byte foreign OfSegment = word_free byte foreign OfSetIaclSeg
set_word_free byte foreign OfDirectory = word_free byte foreign OfSetIaclDir

del_word_free : (byte : ℕ) → IsForeign byte → (kind : AclKind) → is_free byte (del_iacl_word kind) ≡ true
del_word_free byte foreign OfSegment = word_free byte foreign OfDelIaclSeg
del_word_free byte foreign OfDirectory = word_free byte foreign OfDelIaclDir

fields_free : (byte : ℕ) → IsForeign byte → (request : Request) → fits_request request ≡ true → list_all (is_free byte) (request_fields request) ≡ true
fields_free byte foreign (CreateDir path d1 d2) e =
    let f = both (is_pathname path) (is_ring d1 && is_ring d2) e in
    let g = both (is_ring d1) (is_ring d2) f.1 in
    both_hold _ _ (word_free byte foreign OfCreateDir) (both_hold _ _ (path_fields byte foreign path f.0)
    (both_hold _ _ (ring_free byte d1 foreign.no_digit g.0) (both_hold _ _ (ring_free byte d2 foreign.no_digit g.1) refl)))
fields_free byte foreign (CreateSeg path words brackets) e =
    let f = both (is_pathname path) (nat_le words 99999 && are_brackets brackets) e in
    let g = both (nat_le words 99999) (are_brackets brackets) f.1 in
    both_hold _ _ (word_free byte foreign OfCreateSeg) (both_hold _ _ (path_fields byte foreign path f.0)
    (both_hold _ _ (words_free byte words foreign.no_digit g.0) (brackets_free byte brackets foreign.no_digit g.1)))
fields_free byte foreign (CreateObject path words brackets object) e =
    let f = both (is_pathname path) (nat_le words 99999 && (are_brackets brackets && fits_object object)) e in
    let g = both (nat_le words 99999) (are_brackets brackets && fits_object object) f.1 in
    let h = both (are_brackets brackets) (fits_object object) g.1 in
    both_hold _ _ (word_free byte foreign OfCreateObject) (both_hold _ _ (path_fields byte foreign path f.0)
    (both_hold _ _ (words_free byte words foreign.no_digit g.0)
    (list_all-append _ (map ring_text brackets) (object_fields object)
    ∙ both_hold _ _ (brackets_free byte brackets foreign.no_digit h.0)
    (object_free byte object foreign.no_name foreign.no_digit foreign.no_octal_digit foreign.no_colon foreign.no_dollar h.1))))
fields_free byte foreign (CreateLink path target) e =
    let f = both (is_pathname path) (is_pathname target) e in
    both_hold _ _ (word_free byte foreign OfCreateLink) (both_hold _ _ (path_fields byte foreign path f.0)
    (both_hold _ _ (path_fields byte foreign target f.1) refl))
fields_free byte foreign (Rename path name) e =
    let f = both (is_pathname path) (is_name name) e in
    both_hold _ _ (word_free byte foreign OfRename) (both_hold _ _ (path_fields byte foreign path f.0)
    (both_hold _ _ (name_is_free byte name foreign.no_name (faultless (name_fault name) f.1)) refl))
fields_free byte foreign (Delete path) e = both_hold _ _ (word_free byte foreign OfDelete) (both_hold _ _ (path_fields byte foreign path e) refl)
fields_free byte foreign (SetAcl path id modes) e =
    let f = both (is_pathname path) (is_identifier id) e in
    both_hold _ _ (word_free byte foreign OfSetAcl) (both_hold _ _ (path_fields byte foreign path f.0)
    (both_hold _ _ (id_fields byte foreign id f.1) (both_hold _ _ (modes_is_free byte modes foreign.no_letter) refl)))
fields_free byte foreign (DelAcl path id) e =
    let f = both (is_pathname path) (is_identifier id) e in
    both_hold _ _ (word_free byte foreign OfDelAcl) (both_hold _ _ (path_fields byte foreign path f.0)
    (both_hold _ _ (id_fields byte foreign id f.1) refl))
fields_free byte foreign (SetIacl path kind id modes) e =
    let f = both (is_pathname path) (is_identifier id) e in
    both_hold _ _ (set_word_free byte foreign kind) (both_hold _ _ (path_fields byte foreign path f.0)
    (both_hold _ _ (id_fields byte foreign id f.1) (both_hold _ _ (modes_is_free byte modes foreign.no_letter) refl)))
fields_free byte foreign (DelIacl path kind id) e =
    let f = both (is_pathname path) (is_identifier id) e in
    both_hold _ _ (del_word_free byte foreign kind) (both_hold _ _ (path_fields byte foreign path f.0)
    (both_hold _ _ (id_fields byte foreign id f.1) refl))
fields_free byte foreign (SetBrackets path brackets) e =
    let f = both (is_pathname path) (are_brackets brackets) e in
    both_hold _ _ (word_free byte foreign OfSetBrackets) (both_hold _ _ (path_fields byte foreign path f.0)
    (brackets_free byte brackets foreign.no_digit f.1))
fields_free byte foreign (SetDirBrackets path d1 d2) e =
    let f = both (is_pathname path) (is_ring d1 && is_ring d2) e in
    let g = both (is_ring d1) (is_ring d2) f.1 in
    both_hold _ _ (word_free byte foreign OfSetDirBrackets) (both_hold _ _ (path_fields byte foreign path f.0)
    (both_hold _ _ (ring_free byte d1 foreign.no_digit g.0) (both_hold _ _ (ring_free byte d2 foreign.no_digit g.1) refl)))
fields_free byte foreign (SetClass path class) e =
    let f = both (is_pathname path) (is_class class) e in
    both_hold _ _ (word_free byte foreign OfSetClass) (both_hold _ _ (path_fields byte foreign path f.0)
    (both_hold _ _ (class_free byte class foreign.no_octal_digit foreign.no_colon) refl))
fields_free byte foreign (Status path) e = both_hold _ _ (word_free byte foreign OfStatus) (both_hold _ _ (path_fields byte foreign path e) refl)
fields_free byte foreign (ListNames path) e = both_hold _ _ (word_free byte foreign OfList) (both_hold _ _ (path_fields byte foreign path e) refl)
fields_free byte foreign (ChangeWdir path) e = both_hold _ _ (word_free byte foreign OfChangeWdir) (both_hold _ _ (path_fields byte foreign path e) refl)
fields_free byte foreign (SetRules rules) e =
    let f = both (nat_le 1 (length rules)) (nat_le (length rules) 16 && list_all is_rule rules) e in
    let g = both (nat_le (length rules) 16) (list_all is_rule rules) f.1 in
    both_hold _ _ (word_free byte foreign OfSetRules) (rules_free byte foreign rules g.1)
fields_free byte foreign (Initiate path name) e =
    let f = both (is_pathname path) (is_name_or_none name) e in
    both_hold _ _ (word_free byte foreign OfInitiate) (both_hold _ _ (path_fields byte foreign path f.0) (name_free byte foreign name f.1))
fields_free byte foreign (Terminate segno) e =
    both_hold _ _ (word_free byte foreign OfTerminate) (both_hold _ _ (segno_free byte segno foreign.no_digit) refl)
fields_free byte foreign (Wakeup to word) e =
    both_hold _ _ (word_free byte foreign OfWakeup) (message_free byte to word foreign.no_digit foreign.no_octal_digit e)
fields_free byte foreign Block e = both_hold _ _ (all_free is_name_byte byte (codes "block") foreign.no_name refl) refl
fields_free byte foreign (Link segno word) e =
    both_hold _ _ (word_free byte foreign OfLink)
    (both_hold _ _ (address_free byte segno word foreign.no_octal_digit foreign.no_bar) refl)
fields_free byte foreign Resume e = both_hold _ _ (all_free is_name_byte byte (codes "resume") foreign.no_name refl) refl
fields_free byte foreign Logout e = both_hold _ _ (all_free is_name_byte byte (codes "logout") foreign.no_name refl) refl

pub request_free : (byte : ℕ) → IsForeign byte → (request : Request) → fits_request request ≡ true → is_free byte (request_text request) ≡ true
request_free byte foreign request e = line_free byte (request_fields request) foreign.no_blank (fields_free byte foreign request e)

pub newline_free : (request : Request) → fits_request request ≡ true → is_free 10 (request_text request) ≡ true
newline_free request e = request_free 10 newline request e
  where
    newline : IsForeign 10
    newline = record {
      no_name = refl;
      no_pathname = refl;
      no_component = refl;
      no_digit = refl;
      no_octal_digit = refl;
      no_bar = refl;
      no_colon = refl;
      no_dollar = refl;
      no_letter = refl;
      no_dot = refl;
      no_star = refl;
      no_blank = refl;
    }

pub equals_free : (request : Request) → fits_request request ≡ true → is_free 61 (request_text request) ≡ true
equals_free request e = request_free 61 equals request e
  where
    equals : IsForeign 61
    equals = record {
      no_name = refl;
      no_pathname = refl;
      no_component = refl;
      no_digit = refl;
      no_octal_digit = refl;
      no_bar = refl;
      no_colon = refl;
      no_dollar = refl;
      no_letter = refl;
      no_dot = refl;
      no_star = refl;
      no_blank = refl;
    }
