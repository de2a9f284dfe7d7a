-- Laws of lines: a request that fits is read back from its line, so that no two have one line.
use Rattle.std.proofs.Common.{◌≡◌, ℕ, ◌≤◌, nat_le, length, arith, true, ◌&&◌, List, ◌∷◌, ◌++◌, map, Option, Some, None, Result, Ok, Err, IfOk, codes, refl, ap, sym, ◌∙◌}
use Rattle.std.proofs.lemmas.Bool.Decides.{nat_tests}
use Rattle.std.specs.Fmt.{decimal}
use Rattle.std.specs.List.{list_all}
use Rattle.mx_name.proofs.TextLaws.{all_free, name_again}
use Rattle.mx_name.specs.Identifiers.{PlainAclId, acl_id_text}
use Rattle.mx_name.specs.Names.{is_name_byte, name_fault}
use Rattle.mx_aim.proofs.TextLaws.{class_of_text-class_text}
use Rattle.mx_aim.specs.Classes.{PlainClass, class_text}
use Rattle.mx_acl.proofs.ModesLaws.{modes_again}
use Rattle.mx_acl.specs.Modes.{modes_text}
use Rattle.mx_acl.specs.declared.modes.Modes.{Modes}
use Rattle.mx_acl.specs.declared.modes.AclKind.{AclKind}
use Rattle.mx_acl.specs.declared.modes.AclKind.TheVariants.{Segment as OfSegment, Directory as OfDirectory}
use Rattle.mx_sdw.specs.Octal.{octal}
use Rattle.mx_object.specs.Objects.{PlainObjectMap}
use Rattle.mx_search.specs.declared.rules.Rule.{Rule}
use Rattle.mx_request.specs.declared.requests.Request.{Request}
use Rattle.mx_request.specs.declared.requests.Request.TheVariants.{CreateDir, CreateSeg, CreateObject, CreateLink, Rename, Delete, SetAcl, DelAcl, SetIacl, DelIacl, SetBrackets, SetDirBrackets, SetClass, Status, List as ListNames, ChangeWdir, SetRules, Initiate, Terminate, Wakeup, Block, Link, Resume, Logout}
use Rattle.mx_request.specs.declared.reading.kinds.Kind.{Kind}
use Rattle.mx_request.specs.declared.reading.kinds.Kind.TheVariants.{CreateDir as OfCreateDir, CreateSeg as OfCreateSeg, CreateObject as OfCreateObject, CreateLink as OfCreateLink, Rename as OfRename, Delete as OfDelete, SetAcl as OfSetAcl, DelAcl as OfDelAcl, SetIaclSeg as OfSetIaclSeg, SetIaclDir as OfSetIaclDir, DelIaclSeg as OfDelIaclSeg, DelIaclDir as OfDelIaclDir, SetBrackets as OfSetBrackets, SetDirBrackets as OfSetDirBrackets, SetClass as OfSetClass, Status as OfStatus, List as OfList, ChangeWdir as OfChangeWdir, SetRules as OfSetRules, Initiate as OfInitiate, Terminate as OfTerminate, Wakeup as OfWakeup, Link as OfLink}
use Rattle.mx_request.specs.Fields.{line_of, ring_text, is_name}
use Rattle.mx_request.specs.Kinds.{kind_word}
use Rattle.mx_request.specs.Reading.{create_dir_at, create_seg_at, create_object_at, create_link_at, rename_at, set_acl_at, del_acl_at, set_iacl_at, del_iacl_at, set_brackets_at, set_dir_brackets_at, set_class_at, fields_at, request_at}
use Rattle.mx_request.specs.ObjectTexts.{object_fields, fits_object}
use Rattle.mx_request.specs.RequestTexts.{request_text, rule_text, is_pathname, is_identifier, is_class, is_ring, is_rule, are_brackets, fits_request}
use Rattle.mx_request.proofs.StepLaws.{both, faultless, some_is}
use Rattle.mx_name.proofs.CutLaws.{cut_again}
use Rattle.mx_request.proofs.FieldLaws.{words_again, words_free, ring_again, ring_free, brackets_again, brackets_behind, before_again, before_behind, segno_again}
use Rattle.mx_request.proofs.ObjectLaws.{object_again}
use Rattle.mx_request.proofs.RuleLaws.{cut_none, rules_again, rules_behind}
use Rattle.mx_request.proofs.AddressLaws.{link_again}
use Rattle.mx_request.proofs.MessageLaws.{wakeup_again}
use Rattle.mx_request.proofs.KindLaws.{kind_again, kind_bytes, kind_not_bare}
use Rattle.mx_request.proofs.ClassTexts.{class_is}
use Rattle.mx_request.proofs.TakenLaws.{path_again, path_free, id_again, id_free, request_takes}

-- the word of a line says how its fields are read
by_kind : (kind : Kind) (text : List ℕ) → request_at (kind_word kind ++ 32 ∷ text) ≡ fields_at kind text
unfolding request_at
by_kind kind text =
    let free = all_free is_name_byte 32 (kind_word kind) refl (kind_bytes kind) in
    rw (kind_not_bare kind text, cut_again 32 (kind_word kind) text free, kind_again kind) refl

-- each kind of line is read back
create_dir_again : (path : List ℕ) (d1 d2 : ℕ) → fits_request (CreateDir path d1 d2) ≡ true
    → create_dir_at (path ++ 32 ∷ (ring_text d1 ++ 32 ∷ ring_text d2)) ≡ Some (CreateDir path d1 d2)
create_dir_again path d1 d2 e =
    let f = both (is_pathname path) (is_ring d1 && is_ring d2) e in
    let g = both (is_ring d1) (is_ring d2) f.1 in
    rw (
      cut_again 32 path (ring_text d1 ++ 32 ∷ ring_text d2) (path_free path f.0),
      cut_again 32 (ring_text d1) (ring_text d2) (ring_free 32 d1 refl g.0),
      ring_again d1 g.0,
      ring_again d2 g.1,
      path_again path f.0,
    ) refl

create_seg_again : (path : List ℕ) (words : ℕ) (brackets : List ℕ) → fits_request (CreateSeg path words brackets) ≡ true
    → create_seg_at (path ++ 32 ∷ line_of (decimal words ∷ map ring_text brackets)) ≡ Some (CreateSeg path words brackets)
create_seg_again path words brackets e =
    let f = both (is_pathname path) (nat_le words 99999 && are_brackets brackets) e in
    let g = both (nat_le words 99999) (are_brackets brackets) f.1 in
    rw (
      brackets_behind (decimal words) brackets g.1,
      cut_again 32 path (decimal words ++ 32 ∷ line_of (map ring_text brackets)) (path_free path f.0),
      cut_again 32 (decimal words) (line_of (map ring_text brackets)) (words_free 32 words refl g.0),
      words_again words g.0,
      brackets_again brackets g.1,
      path_again path f.0,
    ) refl

create_object_again : (path : List ℕ) (words : ℕ) (brackets : List ℕ) (object : PlainObjectMap)
    → fits_request (CreateObject path words brackets object) ≡ true
    → create_object_at (path ++ 32 ∷ line_of (decimal words ∷ map ring_text brackets ++ object_fields object))
    ≡ Some (CreateObject path words brackets object)
create_object_again path words brackets object e =
    let f = both (is_pathname path) (nat_le words 99999 && (are_brackets brackets && fits_object object)) e in
    let g = both (nat_le words 99999) (are_brackets brackets && fits_object object) f.1 in
    let h = both (are_brackets brackets) (fits_object object) g.1 in
    let rest : List ℕ = line_of (map ring_text brackets ++ object_fields object) in
    rw (
      before_behind (decimal words) brackets _ _ h.0,
      cut_again 32 path (decimal words ++ 32 ∷ rest) (path_free path f.0),
      cut_again 32 (decimal words) rest (words_free 32 words refl g.0),
      words_again words g.0,
      before_again brackets _ _ h.0,
      object_again object h.1,
      path_again path f.0,
    ) refl

create_link_again : (path target : List ℕ) → fits_request (CreateLink path target) ≡ true
    → create_link_at (path ++ 32 ∷ target) ≡ Some (CreateLink path target)
create_link_again path target e =
    let f = both (is_pathname path) (is_pathname target) e in
    rw (cut_again 32 path target (path_free path f.0), path_again path f.0, path_again target f.1) refl

rename_again : (path name : List ℕ) → fits_request (Rename path name) ≡ true → rename_at (path ++ 32 ∷ name) ≡ Some (Rename path name)
rename_again path name e =
    let f = both (is_pathname path) (is_name name) e in
    rw (cut_again 32 path name (path_free path f.0), name_again name (faultless (name_fault name) f.1), path_again path f.0) refl

set_acl_again : (path : List ℕ) (id : PlainAclId) (modes : Modes) → fits_request (SetAcl path id modes) ≡ true
    → set_acl_at (path ++ 32 ∷ (acl_id_text id ++ 32 ∷ modes_text modes)) ≡ Some (SetAcl path id modes)
set_acl_again path id modes e =
    let f = both (is_pathname path) (is_identifier id) e in
    rw (
      cut_again 32 path (acl_id_text id ++ 32 ∷ modes_text modes) (path_free path f.0),
      cut_again 32 (acl_id_text id) (modes_text modes) (id_free id f.1),
      modes_again modes,
      id_again id f.1,
      path_again path f.0,
    ) refl

del_acl_again : (path : List ℕ) (id : PlainAclId) → fits_request (DelAcl path id) ≡ true
    → del_acl_at (path ++ 32 ∷ acl_id_text id) ≡ Some (DelAcl path id)
del_acl_again path id e =
    let f = both (is_pathname path) (is_identifier id) e in
    rw (cut_again 32 path (acl_id_text id) (path_free path f.0), id_again id f.1, path_again path f.0) refl

set_iacl_again : (path : List ℕ) (kind : AclKind) (id : PlainAclId) (modes : Modes) → fits_request (SetIacl path kind id modes) ≡ true
    → set_iacl_at kind (path ++ 32 ∷ (acl_id_text id ++ 32 ∷ modes_text modes)) ≡ Some (SetIacl path kind id modes)
set_iacl_again path kind id modes e =
    let f = both (is_pathname path) (is_identifier id) e in
    rw (
      cut_again 32 path (acl_id_text id ++ 32 ∷ modes_text modes) (path_free path f.0),
      cut_again 32 (acl_id_text id) (modes_text modes) (id_free id f.1),
      modes_again modes,
      id_again id f.1,
      path_again path f.0,
    ) refl

del_iacl_again : (path : List ℕ) (kind : AclKind) (id : PlainAclId) → fits_request (DelIacl path kind id) ≡ true
    → del_iacl_at kind (path ++ 32 ∷ acl_id_text id) ≡ Some (DelIacl path kind id)
del_iacl_again path kind id e =
    let f = both (is_pathname path) (is_identifier id) e in
    rw (cut_again 32 path (acl_id_text id) (path_free path f.0), id_again id f.1, path_again path f.0) refl

set_brackets_again : (path brackets : List ℕ) → fits_request (SetBrackets path brackets) ≡ true
    → set_brackets_at (line_of (path ∷ map ring_text brackets)) ≡ Some (SetBrackets path brackets)
set_brackets_again path brackets e =
    let f = both (is_pathname path) (are_brackets brackets) e in
    rw (
      brackets_behind path brackets f.1,
      cut_again 32 path (line_of (map ring_text brackets)) (path_free path f.0),
      brackets_again brackets f.1,
      path_again path f.0,
    ) refl

set_dir_brackets_again : (path : List ℕ) (d1 d2 : ℕ) → fits_request (SetDirBrackets path d1 d2) ≡ true
    → set_dir_brackets_at (path ++ 32 ∷ (ring_text d1 ++ 32 ∷ ring_text d2)) ≡ Some (SetDirBrackets path d1 d2)
set_dir_brackets_again path d1 d2 e =
    let f = both (is_pathname path) (is_ring d1 && is_ring d2) e in
    let g = both (is_ring d1) (is_ring d2) f.1 in
    rw (
      cut_again 32 path (ring_text d1 ++ 32 ∷ ring_text d2) (path_free path f.0),
      cut_again 32 (ring_text d1) (ring_text d2) (ring_free 32 d1 refl g.0),
      ring_again d1 g.0,
      ring_again d2 g.1,
      path_again path f.0,
    ) refl

set_class_again : (path : List ℕ) (class : PlainClass) → fits_request (SetClass path class) ≡ true
    → set_class_at (path ++ 32 ∷ class_text class) ≡ Some (SetClass path class)
set_class_again path class e =
    let f = both (is_pathname path) (is_class class) e in
    rw (
      cut_again 32 path (class_text class) (path_free path f.0),
      class_of_text-class_text class (class_is class f.1),
      path_again path f.0,
    ) refl

set_rules_again : (rules : List Rule) → fits_request (SetRules rules) ≡ true → request_at (request_text (SetRules rules)) ≡ Some (SetRules rules)
set_rules_again rules e =
    let f = both (nat_le 1 (length rules)) (nat_le (length rules) 16 && list_all is_rule rules) e in
    let g = both (nat_le (length rules) 16) (list_all is_rule rules) f.1 in
    let some : 1 ≤ length rules = at_most 1 (length rules) f.0 in
    ap request_at (rules_behind (codes "set_rules") rules some)
    ∙ by_kind OfSetRules (line_of (map rule_text rules))
    ∙ rw (rules_again 16 rules some (at_most (length rules) 16 g.0) g.1, f.0, g.0) refl
  where
    at_most : (a b : ℕ) → nat_le a b ≡ true → a ≤ b
    at_most a b e = grind (arith, nat_tests)

initiate_again : (path : List ℕ) (name : Option (List ℕ)) → fits_request (Initiate path name) ≡ true
    → request_at (request_text (Initiate path name)) ≡ Some (Initiate path name)
initiate_again path None e =
    let f = both (is_pathname path) true e in
    by_kind OfInitiate path ∙ rw (cut_none 32 path (path_free path f.0), path_again path f.0) refl
initiate_again path (Some name) e =
    let f = both (is_pathname path) (is_name name) e in
    by_kind OfInitiate (path ++ 32 ∷ name)
    ∙ rw (cut_again 32 path name (path_free path f.0), name_again name (faultless (name_fault name) f.1), path_again path f.0) refl

block_again : request_at (codes "block") ≡ Some Block
unfolding request_at
block_again = refl

resume_again : request_at (codes "resume") ≡ Some Resume
unfolding request_at
resume_again = refl

logout_again : request_at (codes "logout") ≡ Some Logout
unfolding request_at
logout_again = refl

-- a request that fits is read back from its line
pub request_again : (request : Request) → fits_request request ≡ true → request_at (request_text request) ≡ Some request
request_again (CreateDir path d1 d2) e = by_kind OfCreateDir _ ∙ create_dir_again path d1 d2 e
request_again (CreateSeg path words brackets) e = by_kind OfCreateSeg _ ∙ create_seg_again path words brackets e
request_again (CreateObject path words brackets object) e = by_kind OfCreateObject _ ∙ create_object_again path words brackets object e
request_again (CreateLink path target) e = by_kind OfCreateLink _ ∙ create_link_again path target e
request_again (Rename path name) e = by_kind OfRename _ ∙ rename_again path name e
request_again (Delete path) e = by_kind OfDelete path ∙ rw (path_again path e) refl
request_again (SetAcl path id modes) e = by_kind OfSetAcl _ ∙ set_acl_again path id modes e
request_again (DelAcl path id) e = by_kind OfDelAcl _ ∙ del_acl_again path id e
request_again (SetIacl path OfSegment id modes) e = by_kind OfSetIaclSeg _ ∙ set_iacl_again path OfSegment id modes e
request_again (SetIacl path OfDirectory id modes) e = by_kind OfSetIaclDir _ ∙ set_iacl_again path OfDirectory id modes e
request_again (DelIacl path OfSegment id) e = by_kind OfDelIaclSeg _ ∙ del_iacl_again path OfSegment id e
request_again (DelIacl path OfDirectory id) e = by_kind OfDelIaclDir _ ∙ del_iacl_again path OfDirectory id e
request_again (SetBrackets path brackets) e = by_kind OfSetBrackets _ ∙ set_brackets_again path brackets e
request_again (SetDirBrackets path d1 d2) e = by_kind OfSetDirBrackets _ ∙ set_dir_brackets_again path d1 d2 e
request_again (SetClass path class) e = by_kind OfSetClass _ ∙ set_class_again path class e
request_again (Status path) e = by_kind OfStatus path ∙ rw (path_again path e) refl
request_again (ListNames path) e = by_kind OfList path ∙ rw (path_again path e) refl
request_again (ChangeWdir path) e = by_kind OfChangeWdir path ∙ rw (path_again path e) refl
request_again (SetRules rules) e = set_rules_again rules e
request_again (Initiate path name) e = initiate_again path name e
request_again (Terminate segno) e = by_kind OfTerminate (octal segno) ∙ rw (segno_again segno e) refl
request_again (Wakeup to word) e = by_kind OfWakeup _ ∙ wakeup_again to word e
request_again Block e = block_again
request_again (Link segno word) e = by_kind OfLink _ ∙ link_again segno word e
request_again Resume e = resume_again
request_again Logout e = logout_again

-- two requests that fit and have one line are the same
pub one_request : (one other : Request) → fits_request one ≡ true → fits_request other ≡ true → request_text one ≡ request_text other → one ≡ other
one_request one other e f same = some_is _ _ (sym (request_again one e) ∙ ap request_at same ∙ request_again other f)

-- what the reader answers of a line
ok_is : {A E : Type 0} (a b : A) → ◌≡◌ {A = Result A E} (Ok a) (Ok b) → a ≡ b
ok_is a b e = cc

pub line_found : {E : Type 0} (line : List ℕ) (result : Result (Option Request) E) (request : Request) → IfOk result (λ r. r ≡ request_at line)
    → result ≡ Ok (Some request) → (request_text request ≡ line) × (fits_request request ≡ true)
line_found line (Ok r) request is e = let f = request_takes line request (sym is ∙ ok_is _ _ e) in (f.spelled, f.fits)
line_found line (Err x) request is e = cc

pub no_line : {E : Type 0} (line : List ℕ) (result : Result (Option Request) E) (request : Request) → IfOk result (λ r. r ≡ request_at line)
    → result ≡ Ok None → fits_request request ≡ true → request_text request ≡ line → ⊥
no_line line (Ok r) request is e fits same = none_is_some _ (sym (ok_is _ _ e) ∙ is ∙ ap request_at (sym same) ∙ request_again request fits)
  where
    none_is_some : {A : Type 0} (a : A) → ◌≡◌ {A = Option A} None (Some a) → ⊥
    none_is_some a e = cc
no_line line (Err x) request is e fits same = cc
