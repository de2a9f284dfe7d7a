-- Laws of lines: what a line is read as spells that line.
use Rattle.std.proofs.Common.{◌≡◌, ℕ, nat_le, length, ◌==◌, ◌&&◌, Bool, true, false, cond, List, ◌∷◌, ◌++◌, map, Option, Some, None, codes, refl, ap, sym, ◌∙◌, subst}
use Rattle.std.specs.Fmt.{decimal}
use Rattle.std.specs.List.{list_all}
use Rattle.std.specs.Cmp.Lexicographic.{pointwise, same_text}
use Rattle.mx_name.proofs.TextLaws.{name_takes, pathname_takes, pathname_again, pathname_is_free, acl_id_takes, acl_id_again, acl_id_is_free}
use Rattle.mx_name.specs.Identifiers.{PlainAclId, acl_id_of, acl_id_text, id_fault}
use Rattle.mx_name.specs.Names.{is_free, name_fault, name_of}
use Rattle.mx_name.specs.Pathnames.{pathname_fault, pathname_of}
use Rattle.mx_sdw.specs.Octal.{octal_number}
use Rattle.mx_aim.proofs.TextLaws.{class_text-class_of_text}
use Rattle.mx_aim.specs.Classes.{class_text, class_of_text}
use Rattle.mx_acl.proofs.ModesLaws.{modes_takes}
use Rattle.mx_acl.specs.Modes.{modes_text, modes_of_text}
use Rattle.mx_acl.specs.declared.modes.AclKind.{AclKind}
use Rattle.mx_acl.specs.declared.modes.AclKind.TheVariants.{Segment as OfSegment, Directory as OfDirectory}
use Rattle.mx_search.specs.Rules.{rules_of}
use Rattle.mx_search.specs.declared.rules.Rule.{Rule}
use Rattle.mx_request.specs.declared.requests.Request.{Request}
use Rattle.mx_request.specs.declared.requests.Request.TheVariants.{Delete, Status, List as ListNames, ChangeWdir, SetRules, Initiate, Block, Resume, Logout}
use Rattle.mx_request.specs.declared.reading.kinds.Kind.{Kind}
use Rattle.mx_request.specs.declared.reading.kinds.Kind.TheVariants.{CreateDir as OfCreateDir, CreateSeg as OfCreateSeg, CreateObject as OfCreateObject, CreateLink as OfCreateLink, Rename as OfRename, Delete as OfDelete, SetAcl as OfSetAcl, DelAcl as OfDelAcl, SetIaclSeg as OfSetIaclSeg, SetIaclDir as OfSetIaclDir, DelIaclSeg as OfDelIaclSeg, DelIaclDir as OfDelIaclDir, SetBrackets as OfSetBrackets, SetDirBrackets as OfSetDirBrackets, SetClass as OfSetClass, Status as OfStatus, List as OfList, ChangeWdir as OfChangeWdir, SetRules as OfSetRules, Initiate as OfInitiate, Terminate as OfTerminate, Wakeup as OfWakeup, Link as OfLink}
use Rattle.mx_name.specs.Cuts.{cut_at}
use Rattle.mx_request.specs.Fields.{line_of, ring_text}
use Rattle.mx_request.specs.Kinds.{kind_of, kind_word}
use Rattle.mx_request.specs.Decimals.{decimal_number}
use Rattle.mx_request.specs.Reading.{ring_at, brackets_at, brackets_before, create_dir_at, create_seg_at, create_object_at, create_link_at, rename_at, delete_at, set_acl_at, del_acl_at, set_iacl_at, del_iacl_at, set_brackets_at, set_dir_brackets_at, set_class_at, status_at, list_at, change_wdir_at, rules_at, set_rules_at, initiate_by, initiate_at, terminate_at, wakeup_at, link_at, fields_at, bare_at, bare_or_worded, request_at}
use Rattle.mx_request.specs.ReadingObjects.{object_at}
use Rattle.mx_request.specs.RequestTexts.{set_iacl_word, del_iacl_word, request_text, is_pathname, is_identifier, is_rule, fits_request}
use Rattle.mx_request.proofs.StepLaws.{both, both_hold, no_fault, faultless, some_is, bind_some, when_some}
use Rattle.mx_name.proofs.CutLaws.{cut_takes}
use Rattle.mx_request.proofs.FieldLaws.{words_takes, ring_takes, brackets_takes, before_takes, segno_takes}
use Rattle.mx_request.proofs.ObjectLaws.{object_takes}
use Rattle.mx_request.proofs.RuleLaws.{AreText, rules_take}
use Rattle.mx_request.proofs.AddressLaws.{link_reads}
use Rattle.mx_request.proofs.MessageLaws.{wakeup_reads}
use Rattle.mx_request.proofs.KindLaws.{kind_takes}
use Rattle.mx_request.proofs.ClassTexts.{class_fits}

-- a line spells a request that fits
pub record IsLine (line : List ℕ) (request : Request) : Type 0 where
  pub spelled : request_text request ≡ line
  pub fits : fits_request request ≡ true

-- fields
pub path_takes : (text path : List ℕ) → pathname_of text ≡ Some path → (path ≡ text) × (is_pathname path ≡ true)
path_takes text path e = let f = pathname_takes text path e in (f.0, no_fault (pathname_fault path) f.1)

pub path_again : (path : List ℕ) → is_pathname path ≡ true → pathname_of path ≡ Some path
path_again path e = pathname_again path (faultless (pathname_fault path) e)

pub path_free : (path : List ℕ) → is_pathname path ≡ true → is_free 32 path ≡ true
path_free path e = pathname_is_free 32 path refl (faultless (pathname_fault path) e)

pub id_takes : (text : List ℕ) (id : PlainAclId) → acl_id_of text ≡ Some id → (acl_id_text id ≡ text) × (is_identifier id ≡ true)
id_takes text id e = let f = acl_id_takes text id e in (f.0, no_fault (id_fault id) f.1)

pub id_again : (id : PlainAclId) → is_identifier id ≡ true → acl_id_of (acl_id_text id) ≡ Some id
id_again id e = acl_id_again id (faultless (id_fault id) e)

pub id_free : (id : PlainAclId) → is_identifier id ≡ true → is_free 32 (acl_id_text id) ≡ true
id_free id e = acl_id_is_free 32 id refl refl refl (faultless (id_fault id) e)

-- a word and fields, where the fields are those of a text that was cut
two_parts : (word a b text x y : List ℕ) → text ≡ x ++ 32 ∷ y → a ≡ x → b ≡ y → word ++ 32 ∷ (a ++ 32 ∷ b) ≡ word ++ 32 ∷ text
two_parts word a b text x y e f g = rw (e, f, g) refl

three_parts : (word a b c text x rest y z : List ℕ) → text ≡ x ++ 32 ∷ rest → rest ≡ y ++ 32 ∷ z → a ≡ x → b ≡ y → c ≡ z
    → word ++ 32 ∷ (a ++ 32 ∷ (b ++ 32 ∷ c)) ≡ word ++ 32 ∷ text
three_parts word a b c text x rest y z e f g h i = rw (e, f, g, h, i) refl

-- what is read of each kind of line
create_dir_takes : (text : List ℕ) (request : Request) → create_dir_at text ≡ Some request → IsLine (codes "create_dir" ++ 32 ∷ text) request
create_dir_takes text request e =
    let p = bind_some (cut_at 32 text) _ request e in
    let q = bind_some (cut_at 32 p.0.1) _ request p.2 in
    let d1 = bind_some (ring_at q.0.0) _ request q.2 in
    let d2 = bind_some (ring_at q.0.1) _ request d1.2 in
    let path = bind_some (pathname_of p.0.0) _ request d2.2 in
    let a = path_takes p.0.0 path.0 path.1 in
    let b = ring_takes q.0.0 d1.0 d1.1 in
    let c = ring_takes q.0.1 d2.0 d2.1 in
    subst (IsLine (codes "create_dir" ++ 32 ∷ text)) (some_is _ _ path.2)
    (record {
      spelled = three_parts (codes "create_dir") path.0 (ring_text d1.0) (ring_text d2.0) text p.0.0 p.0.1 q.0.0 q.0.1
          (cut_takes 32 text p.0 p.1).0 (cut_takes 32 p.0.1 q.0 q.1).0 a.0 b.0 c.0;
      fits = both_hold _ _ a.1 (both_hold _ _ b.1 c.1);
    })

create_seg_takes : (text : List ℕ) (request : Request) → create_seg_at text ≡ Some request → IsLine (codes "create_seg" ++ 32 ∷ text) request
create_seg_takes text request e =
    let p = bind_some (cut_at 32 text) _ request e in
    let q = bind_some (cut_at 32 p.0.1) _ request p.2 in
    let words = bind_some (decimal_number 5 q.0.0) _ request q.2 in
    let brackets = bind_some (brackets_at q.0.1) _ request words.2 in
    let path = bind_some (pathname_of p.0.0) _ request brackets.2 in
    let a = path_takes p.0.0 path.0 path.1 in
    let b = words_takes q.0.0 words.0 words.1 in
    let c = brackets_takes q.0.1 brackets.0 brackets.1 in
    subst (IsLine (codes "create_seg" ++ 32 ∷ text)) (some_is _ _ path.2)
    (record {
      spelled = ap (λ xs. codes "create_seg" ++ 32 ∷ (path.0 ++ 32 ∷ xs)) (c.behind (decimal words.0))
          ∙ three_parts (codes "create_seg") path.0 (decimal words.0) (line_of (map ring_text brackets.0)) text p.0.0 p.0.1 q.0.0 q.0.1
          (cut_takes 32 text p.0 p.1).0 (cut_takes 32 p.0.1 q.0 q.1).0 a.0 b.0 c.spelled;
      fits = both_hold _ _ a.1 (both_hold _ _ b.1 c.fits);
    })

create_object_takes : (text : List ℕ) (request : Request) → create_object_at text ≡ Some request
    → IsLine (codes "create_object" ++ 32 ∷ text) request
create_object_takes text request e =
    let p = bind_some (cut_at 32 text) _ request e in
    let q = bind_some (cut_at 32 p.0.1) _ request p.2 in
    let words = bind_some (decimal_number 5 q.0.0) _ request q.2 in
    let r = bind_some (brackets_before q.0.1) _ request words.2 in
    let object = bind_some (object_at r.0.1) _ request r.2 in
    let path = bind_some (pathname_of p.0.0) _ request object.2 in
    let a = path_takes p.0.0 path.0 path.1 in
    let b = words_takes q.0.0 words.0 words.1 in
    let c = before_takes q.0.1 r.0 r.1 in
    let d = object_takes r.0.1 object.0 object.1 in
    subst (IsLine (codes "create_object" ++ 32 ∷ text)) (some_is _ _ path.2)
    (record {
      spelled = ap (λ xs. codes "create_object" ++ 32 ∷ (path.0 ++ 32 ∷ xs)) (c.spelled (decimal words.0) _ _ d.spelled)
          ∙ three_parts (codes "create_object") path.0 (decimal words.0) q.0.1 text p.0.0 p.0.1 q.0.0 q.0.1
          (cut_takes 32 text p.0 p.1).0 (cut_takes 32 p.0.1 q.0 q.1).0 a.0 b.0 refl;
      fits = both_hold _ _ a.1 (both_hold _ _ b.1 (both_hold _ _ c.fits d.fits));
    })

create_link_takes : (text : List ℕ) (request : Request) → create_link_at text ≡ Some request → IsLine (codes "create_link" ++ 32 ∷ text) request
create_link_takes text request e =
    let p = bind_some (cut_at 32 text) _ request e in
    let path = bind_some (pathname_of p.0.0) _ request p.2 in
    let target = bind_some (pathname_of p.0.1) _ request path.2 in
    let a = path_takes p.0.0 path.0 path.1 in
    let b = path_takes p.0.1 target.0 target.1 in
    subst (IsLine (codes "create_link" ++ 32 ∷ text)) (some_is _ _ target.2)
    (record {
      spelled = two_parts (codes "create_link") path.0 target.0 text p.0.0 p.0.1 (cut_takes 32 text p.0 p.1).0 a.0 b.0;
      fits = both_hold _ _ a.1 b.1;
    })

rename_takes : (text : List ℕ) (request : Request) → rename_at text ≡ Some request → IsLine (codes "rename" ++ 32 ∷ text) request
rename_takes text request e =
    let p = bind_some (cut_at 32 text) _ request e in
    let name = bind_some (name_of p.0.1) _ request p.2 in
    let path = bind_some (pathname_of p.0.0) _ request name.2 in
    let a = path_takes p.0.0 path.0 path.1 in
    let b = name_takes p.0.1 name.0 name.1 in
    subst (IsLine (codes "rename" ++ 32 ∷ text)) (some_is _ _ path.2)
    (record {
      spelled = two_parts (codes "rename") path.0 name.0 text p.0.0 p.0.1 (cut_takes 32 text p.0 p.1).0 a.0 b.0;
      fits = both_hold _ _ a.1 (no_fault (name_fault name.0) b.1);
    })

set_acl_takes : (text : List ℕ) (request : Request) → set_acl_at text ≡ Some request → IsLine (codes "set_acl" ++ 32 ∷ text) request
set_acl_takes text request e =
    let p = bind_some (cut_at 32 text) _ request e in
    let q = bind_some (cut_at 32 p.0.1) _ request p.2 in
    let modes = bind_some (modes_of_text q.0.1) _ request q.2 in
    let id = bind_some (acl_id_of q.0.0) _ request modes.2 in
    let path = bind_some (pathname_of p.0.0) _ request id.2 in
    let a = path_takes p.0.0 path.0 path.1 in
    let b = id_takes q.0.0 id.0 id.1 in
    subst (IsLine (codes "set_acl" ++ 32 ∷ text)) (some_is _ _ path.2)
    (record {
      spelled = three_parts (codes "set_acl") path.0 (acl_id_text id.0) (modes_text modes.0) text p.0.0 p.0.1 q.0.0 q.0.1
          (cut_takes 32 text p.0 p.1).0 (cut_takes 32 p.0.1 q.0 q.1).0 a.0 b.0 (modes_takes q.0.1 modes.0 modes.1);
      fits = both_hold _ _ a.1 b.1;
    })

del_acl_takes : (text : List ℕ) (request : Request) → del_acl_at text ≡ Some request → IsLine (codes "del_acl" ++ 32 ∷ text) request
del_acl_takes text request e =
    let p = bind_some (cut_at 32 text) _ request e in
    let id = bind_some (acl_id_of p.0.1) _ request p.2 in
    let path = bind_some (pathname_of p.0.0) _ request id.2 in
    let a = path_takes p.0.0 path.0 path.1 in
    let b = id_takes p.0.1 id.0 id.1 in
    subst (IsLine (codes "del_acl" ++ 32 ∷ text)) (some_is _ _ path.2)
    (record {
      spelled = two_parts (codes "del_acl") path.0 (acl_id_text id.0) text p.0.0 p.0.1 (cut_takes 32 text p.0 p.1).0 a.0 b.0;
      fits = both_hold _ _ a.1 b.1;
    })

set_iacl_takes : (kind : AclKind) (text : List ℕ) (request : Request) → set_iacl_at kind text ≡ Some request
    → IsLine (set_iacl_word kind ++ 32 ∷ text) request
set_iacl_takes kind text request e =
    let p = bind_some (cut_at 32 text) _ request e in
    let q = bind_some (cut_at 32 p.0.1) _ request p.2 in
    let modes = bind_some (modes_of_text q.0.1) _ request q.2 in
    let id = bind_some (acl_id_of q.0.0) _ request modes.2 in
    let path = bind_some (pathname_of p.0.0) _ request id.2 in
    let a = path_takes p.0.0 path.0 path.1 in
    let b = id_takes q.0.0 id.0 id.1 in
    subst (IsLine (set_iacl_word kind ++ 32 ∷ text)) (some_is _ _ path.2)
    (record {
      spelled = three_parts (set_iacl_word kind) path.0 (acl_id_text id.0) (modes_text modes.0) text p.0.0 p.0.1 q.0.0 q.0.1
          (cut_takes 32 text p.0 p.1).0 (cut_takes 32 p.0.1 q.0 q.1).0 a.0 b.0 (modes_takes q.0.1 modes.0 modes.1);
      fits = both_hold _ _ a.1 b.1;
    })

del_iacl_takes : (kind : AclKind) (text : List ℕ) (request : Request) → del_iacl_at kind text ≡ Some request
    → IsLine (del_iacl_word kind ++ 32 ∷ text) request
del_iacl_takes kind text request e =
    let p = bind_some (cut_at 32 text) _ request e in
    let id = bind_some (acl_id_of p.0.1) _ request p.2 in
    let path = bind_some (pathname_of p.0.0) _ request id.2 in
    let a = path_takes p.0.0 path.0 path.1 in
    let b = id_takes p.0.1 id.0 id.1 in
    subst (IsLine (del_iacl_word kind ++ 32 ∷ text)) (some_is _ _ path.2)
    (record {
      spelled = two_parts (del_iacl_word kind) path.0 (acl_id_text id.0) text p.0.0 p.0.1 (cut_takes 32 text p.0 p.1).0 a.0 b.0;
      fits = both_hold _ _ a.1 b.1;
    })

set_brackets_takes : (text : List ℕ) (request : Request) → set_brackets_at text ≡ Some request → IsLine (codes "set_brackets" ++ 32 ∷ text) request
set_brackets_takes text request e =
    let p = bind_some (cut_at 32 text) _ request e in
    let brackets = bind_some (brackets_at p.0.1) _ request p.2 in
    let path = bind_some (pathname_of p.0.0) _ request brackets.2 in
    let a = path_takes p.0.0 path.0 path.1 in
    let b = brackets_takes p.0.1 brackets.0 brackets.1 in
    subst (IsLine (codes "set_brackets" ++ 32 ∷ text)) (some_is _ _ path.2)
    (record {
      spelled = ap (λ xs. codes "set_brackets" ++ 32 ∷ xs) (b.behind path.0)
          ∙ two_parts (codes "set_brackets") path.0 (line_of (map ring_text brackets.0)) text p.0.0 p.0.1
          (cut_takes 32 text p.0 p.1).0 a.0 b.spelled;
      fits = both_hold _ _ a.1 b.fits;
    })

set_dir_brackets_takes : (text : List ℕ) (request : Request) → set_dir_brackets_at text ≡ Some request
    → IsLine (codes "set_dir_brackets" ++ 32 ∷ text) request
set_dir_brackets_takes text request e =
    let p = bind_some (cut_at 32 text) _ request e in
    let q = bind_some (cut_at 32 p.0.1) _ request p.2 in
    let d1 = bind_some (ring_at q.0.0) _ request q.2 in
    let d2 = bind_some (ring_at q.0.1) _ request d1.2 in
    let path = bind_some (pathname_of p.0.0) _ request d2.2 in
    let a = path_takes p.0.0 path.0 path.1 in
    let b = ring_takes q.0.0 d1.0 d1.1 in
    let c = ring_takes q.0.1 d2.0 d2.1 in
    subst (IsLine (codes "set_dir_brackets" ++ 32 ∷ text)) (some_is _ _ path.2)
    (record {
      spelled = three_parts (codes "set_dir_brackets") path.0 (ring_text d1.0) (ring_text d2.0) text p.0.0 p.0.1 q.0.0 q.0.1
          (cut_takes 32 text p.0 p.1).0 (cut_takes 32 p.0.1 q.0 q.1).0 a.0 b.0 c.0;
      fits = both_hold _ _ a.1 (both_hold _ _ b.1 c.1);
    })

set_class_takes : (text : List ℕ) (request : Request) → set_class_at text ≡ Some request → IsLine (codes "set_class" ++ 32 ∷ text) request
set_class_takes text request e =
    let p = bind_some (cut_at 32 text) _ request e in
    let class = bind_some (class_of_text p.0.1) _ request p.2 in
    let path = bind_some (pathname_of p.0.0) _ request class.2 in
    let a = path_takes p.0.0 path.0 path.1 in
    subst (IsLine (codes "set_class" ++ 32 ∷ text)) (some_is _ _ path.2)
    (record {
      spelled = two_parts (codes "set_class") path.0 (class_text class.0) text p.0.0 p.0.1 (cut_takes 32 text p.0 p.1).0 a.0
          (class_text-class_of_text p.0.1 class.0 class.1);
      fits = both_hold _ _ a.1 (class_fits p.0.1 class.0 class.1);
    })

-- a kind that has a pathname alone
alone_takes : (word : List ℕ) (make : List ℕ → Request) → ((path : List ℕ) → request_text (make path) ≡ word ++ 32 ∷ path)
    → ((path : List ℕ) → fits_request (make path) ≡ is_pathname path) → (text : List ℕ) (request : Request)
    → (path : List ℕ) × (pathname_of text ≡ Some path) × (◌≡◌ {A = Option Request} (Some (make path)) (Some request))
    → IsLine (word ++ 32 ∷ text) request
alone_takes word make spelled fits text request path =
    let a = path_takes text path.0 path.1 in
    subst (IsLine (word ++ 32 ∷ text)) (some_is _ _ path.2)
    (record { spelled = spelled path.0 ∙ ap (λ xs. word ++ 32 ∷ xs) a.0; fits = fits path.0 ∙ a.1 })

delete_takes : (text : List ℕ) (request : Request) → delete_at text ≡ Some request → IsLine (codes "delete" ++ 32 ∷ text) request
delete_takes text request e = alone_takes (codes "delete") Delete (λ path. refl) (λ path. refl) text request (bind_some (pathname_of text) _ request e)

status_takes : (text : List ℕ) (request : Request) → status_at text ≡ Some request → IsLine (codes "status" ++ 32 ∷ text) request
status_takes text request e = alone_takes (codes "status") Status (λ path. refl) (λ path. refl) text request (bind_some (pathname_of text) _ request e)

list_takes : (text : List ℕ) (request : Request) → list_at text ≡ Some request → IsLine (codes "list" ++ 32 ∷ text) request
list_takes text request e = alone_takes (codes "list") ListNames (λ path. refl) (λ path. refl) text request (bind_some (pathname_of text) _ request e)

change_wdir_takes : (text : List ℕ) (request : Request) → change_wdir_at text ≡ Some request → IsLine (codes "change_wdir" ++ 32 ∷ text) request
change_wdir_takes text request e = alone_takes (codes "change_wdir") ChangeWdir (λ path. refl) (λ path. refl) text request (bind_some (pathname_of text) _ request e)

set_rules_takes : (text : List ℕ) (request : Request) → set_rules_at text ≡ Some request → IsLine (codes "set_rules" ++ 32 ∷ text) request
set_rules_takes text request e =
    let given = bind_some (rules_at 16 text) _ request e in
    let made = bind_some (rules_of given.0) _ request given.2 in
    let count = when_some (nat_le 1 (length given.0) && nat_le (length given.0) 16) given.0 made.0 made.1 in
    let are = rules_take 16 text given.0 given.1 in
    subst (IsLine (codes "set_rules" ++ 32 ∷ text)) (ap SetRules count.1 ∙ some_is _ _ made.2) (line given.0 are count.0)
  where
    line : (rules : List Rule) → AreText text rules → nat_le 1 (length rules) && nat_le (length rules) 16 ≡ true
        → IsLine (codes "set_rules" ++ 32 ∷ text) (SetRules rules)
    line rules are count =
        let f = both (nat_le 1 (length rules)) (nat_le (length rules) 16) count in
        record {
          spelled = are.behind (codes "set_rules") ∙ ap (λ xs. codes "set_rules" ++ 32 ∷ xs) are.spelled;
          fits = both_hold (nat_le 1 (length rules)) (nat_le (length rules) 16 && list_all is_rule rules) f.0
              (both_hold (nat_le (length rules) 16) (list_all is_rule rules) f.1 are.fit);
        }

initiate_takes : (text : List ℕ) (request : Request) → initiate_at text ≡ Some request → IsLine (codes "initiate" ++ 32 ∷ text) request
initiate_takes text request e = by_cut (cut_at 32 text) refl e
  where
    by_cut : (o : Option (List ℕ × List ℕ)) → cut_at 32 text ≡ o → initiate_by text o ≡ Some request → IsLine (codes "initiate" ++ 32 ∷ text) request
    by_cut None c e =
        alone_takes (codes "initiate") (λ path. Initiate path None) (λ path. refl) (λ path. and_true (is_pathname path)) text request
        (bind_some (pathname_of text) _ request e)
      where
        and_true : (b : Bool) → b && true ≡ b
        and_true true = refl
        and_true false = refl
    by_cut (Some p) c e =
        let name = bind_some (name_of p.1) _ request e in
        let path = bind_some (pathname_of p.0) _ request name.2 in
        let a = path_takes p.0 path.0 path.1 in
        let b = name_takes p.1 name.0 name.1 in
        subst (IsLine (codes "initiate" ++ 32 ∷ text)) (some_is _ _ path.2)
        (record {
          spelled = two_parts (codes "initiate") path.0 name.0 text p.0 p.1 (cut_takes 32 text p c).0 a.0 b.0;
          fits = both_hold _ _ a.1 (no_fault (name_fault name.0) b.1);
        })

terminate_takes : (text : List ℕ) (request : Request) → terminate_at text ≡ Some request → IsLine (codes "terminate" ++ 32 ∷ text) request
terminate_takes text request e =
    let segno = bind_some (octal_number 4 text) _ request e in
    let a = segno_takes text segno.0 segno.1 in
    subst (IsLine (codes "terminate" ++ 32 ∷ text)) (some_is _ _ segno.2)
    (record { spelled = ap (λ xs. codes "terminate" ++ 32 ∷ xs) a.0; fits = a.1 })

wakeup_takes : (text : List ℕ) (request : Request) → wakeup_at text ≡ Some request → IsLine (codes "wakeup" ++ 32 ∷ text) request
wakeup_takes text request e =
    let a = wakeup_reads text request e in
    subst (IsLine (codes "wakeup" ++ 32 ∷ text)) a.is
    (record { spelled = ap (λ xs. codes "wakeup" ++ 32 ∷ xs) a.spelled; fits = a.fits })

link_takes : (text : List ℕ) (request : Request) → link_at text ≡ Some request → IsLine (codes "link" ++ 32 ∷ text) request
link_takes text request e =
    let a = link_reads text request e in
    subst (IsLine (codes "link" ++ 32 ∷ text)) a.is
    (record { spelled = ap (λ xs. codes "link" ++ 32 ∷ xs) a.spelled; fits = a.fits })

fields_takes : (kind : Kind) (text : List ℕ) (request : Request) → fields_at kind text ≡ Some request → IsLine (kind_word kind ++ 32 ∷ text) request
fields_takes OfCreateDir text request e = create_dir_takes text request e
fields_takes OfCreateSeg text request e = create_seg_takes text request e
fields_takes OfCreateObject text request e = create_object_takes text request e
fields_takes OfCreateLink text request e = create_link_takes text request e
fields_takes OfRename text request e = rename_takes text request e
fields_takes OfDelete text request e = delete_takes text request e
fields_takes OfSetAcl text request e = set_acl_takes text request e
fields_takes OfDelAcl text request e = del_acl_takes text request e
fields_takes OfSetIaclSeg text request e = set_iacl_takes OfSegment text request e
fields_takes OfSetIaclDir text request e = set_iacl_takes OfDirectory text request e
fields_takes OfDelIaclSeg text request e = del_iacl_takes OfSegment text request e
fields_takes OfDelIaclDir text request e = del_iacl_takes OfDirectory text request e
fields_takes OfSetBrackets text request e = set_brackets_takes text request e
fields_takes OfSetDirBrackets text request e = set_dir_brackets_takes text request e
fields_takes OfSetClass text request e = set_class_takes text request e
fields_takes OfStatus text request e = status_takes text request e
fields_takes OfList text request e = list_takes text request e
fields_takes OfChangeWdir text request e = change_wdir_takes text request e
fields_takes OfSetRules text request e = set_rules_takes text request e
fields_takes OfInitiate text request e = initiate_takes text request e
fields_takes OfTerminate text request e = terminate_takes text request e
fields_takes OfWakeup text request e = wakeup_takes text request e
fields_takes OfLink text request e = link_takes text request e

word_takes : (line : List ℕ) (request : Request) (p : List ℕ × List ℕ) → cut_at 32 line ≡ Some p
    → (kind : Kind) × (kind_of p.0 ≡ Some kind) × (fields_at kind p.1 ≡ Some request) → IsLine line request
word_takes line request p cut kind =
    let same : kind_word kind.0 ++ 32 ∷ p.1 ≡ line = ap (λ word. word ++ 32 ∷ p.1) (kind_takes p.0 kind.0 kind.1) ∙ sym (cut_takes 32 line p cut).0 in
    subst (λ l. IsLine l request) same (fields_takes kind.0 p.1 request kind.2)

-- a line that is a word
bare_takes : (line : List ℕ) (request : Request) → bare_at line ≡ Some request → IsLine line request
bare_takes line request e = by_block (pointwise ◌==◌ line (codes "block")) refl e
  where
    by_logout : (test : Bool) → pointwise ◌==◌ line (codes "logout") ≡ test
        → cond test (Some Logout) None ≡ Some request → IsLine line request
    by_logout true t e =
        subst (IsLine line) (some_is _ _ e) (record { spelled = sym (same_text line (codes "logout") (sym t)); fits = refl })
    by_logout false t e = cc

    by_resume : (test : Bool) → pointwise ◌==◌ line (codes "resume") ≡ test
        → cond test (Some Resume) (cond (pointwise ◌==◌ line (codes "logout")) (Some Logout) None) ≡ Some request
        → IsLine line request
    by_resume true t e =
        subst (IsLine line) (some_is _ _ e) (record { spelled = sym (same_text line (codes "resume") (sym t)); fits = refl })
    by_resume false t e = by_logout (pointwise ◌==◌ line (codes "logout")) refl e

    by_block : (test : Bool) → pointwise ◌==◌ line (codes "block") ≡ test
        → cond test (Some Block) (cond (pointwise ◌==◌ line (codes "resume")) (Some Resume)
        (cond (pointwise ◌==◌ line (codes "logout")) (Some Logout) None)) ≡ Some request
        → IsLine line request
    by_block true t e =
        subst (IsLine line) (some_is _ _ e) (record { spelled = sym (same_text line (codes "block") (sym t)); fits = refl })
    by_block false t e = by_resume (pointwise ◌==◌ line (codes "resume")) refl e

-- a line that is read spells its request
pub request_takes : (line : List ℕ) (request : Request) → request_at line ≡ Some request → IsLine line request
unfolding request_at
request_takes line request e = by_bare (bare_at line) refl e
  where
    by_bare : (bare : Option Request) → bare_at line ≡ bare → bare_or_worded bare line ≡ Some request → IsLine line request
    by_bare (Some own) t e = subst (IsLine line) (some_is _ _ e) (bare_takes line own t)
    by_bare None t e =
        let p = bind_some (cut_at 32 line) _ request e in
        word_takes line request p.0 p.1 (bind_some (kind_of p.0.0) _ request p.2)
