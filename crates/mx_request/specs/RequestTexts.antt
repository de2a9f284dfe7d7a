-- The requests, each as its line in a script and in the journal.
use Rattle.std.specs.Prelude.{ℕ, ◌^◌, Bool, true, ◌&&◌, nat_le, nat_lt, nat_eq, List, [], ◌∷◌, ◌++◌, map, length, Option, None, Some, is_none, codes}
use Rattle.std.specs.Fmt.{decimal}
use Rattle.std.specs.List.{list_all}
use Rattle.mx_name.specs.Pathnames.{pathname_fault}
use Rattle.mx_name.specs.Paths.{path_text}
use Rattle.mx_name.specs.Identifiers.{PlainAclId, acl_id_text, id_fault}
use Rattle.mx_sdw.specs.Octal.{octal}
use Rattle.mx_aim.specs.Classes.{PlainClass, class_text}
use Rattle.mx_acl.specs.Modes.{modes_text}
use Rattle.mx_acl.specs.declared.modes.AclKind.{AclKind}
use Rattle.mx_acl.specs.declared.modes.AclKind.TheVariants.{Segment as OfSegment, Directory as OfDirectory}
use Rattle.mx_search.specs.declared.rules.Rule.{Rule}
use Rattle.mx_search.specs.declared.rules.Rule.TheVariants.{InitiatedSegments, ReferencingDir, WorkingDir, Directory}
use Rattle.mx_request.specs.declared.requests.Request.{Request}
use Rattle.mx_request.specs.declared.requests.Request.TheVariants.{CreateDir, CreateSeg, CreateObject, CreateLink, Rename, Delete, SetAcl, DelAcl, SetIacl, DelIacl, SetBrackets, SetDirBrackets, SetClass, Status, List as ListNames, ChangeWdir, SetRules, Initiate, Terminate, Wakeup, Block, Link, Resume, Logout}
use Rattle.mx_request.specs.Fields.{line_of, ring_text, is_name, address_text}
use Rattle.mx_request.specs.ObjectTexts.{object_fields, fits_object}

-- a search rule: a directory is given by its path from the root
abbrev pub rule_text : Rule → List ℕ
rule_text InitiatedSegments = codes "initiated_segments"
rule_text ReferencingDir = codes "referencing_dir"
rule_text WorkingDir = codes "working_dir"
rule_text (Directory path) = path_text path

-- a reference name, where one is given
abbrev pub name_fields : Option (List ℕ) → List (List ℕ)
name_fields None = []
name_fields (Some name) = name ∷ []

-- the words of the requests on a directory's initial access lists: that of its new segments, and that of its new
-- directories
abbrev pub set_iacl_word : AclKind → List ℕ
set_iacl_word OfSegment = codes "set_iacl_seg"
set_iacl_word OfDirectory = codes "set_iacl_dir"

abbrev pub del_iacl_word : AclKind → List ℕ
del_iacl_word OfSegment = codes "del_iacl_seg"
del_iacl_word OfDirectory = codes "del_iacl_dir"

-- the fields of a request's line: WORDS and a process's number are decimal, a ring one digit, a segment number and a word
-- octal
abbrev pub request_fields : Request → List (List ℕ)
request_fields (CreateDir path d1 d2) = codes "create_dir" ∷ path ∷ ring_text d1 ∷ ring_text d2 ∷ []
request_fields (CreateSeg path words brackets) = codes "create_seg" ∷ path ∷ decimal words ∷ map ring_text brackets
request_fields (CreateObject path words brackets object) =
    codes "create_object" ∷ path ∷ decimal words ∷ map ring_text brackets ++ object_fields object
request_fields (CreateLink path target) = codes "create_link" ∷ path ∷ target ∷ []
request_fields (Rename path name) = codes "rename" ∷ path ∷ name ∷ []
request_fields (Delete path) = codes "delete" ∷ path ∷ []
request_fields (SetAcl path id modes) = codes "set_acl" ∷ path ∷ acl_id_text id ∷ modes_text modes ∷ []
request_fields (DelAcl path id) = codes "del_acl" ∷ path ∷ acl_id_text id ∷ []
request_fields (SetIacl path kind id modes) = set_iacl_word kind ∷ path ∷ acl_id_text id ∷ modes_text modes ∷ []
request_fields (DelIacl path kind id) = del_iacl_word kind ∷ path ∷ acl_id_text id ∷ []
request_fields (SetBrackets path brackets) = codes "set_brackets" ∷ path ∷ map ring_text brackets
request_fields (SetDirBrackets path d1 d2) = codes "set_dir_brackets" ∷ path ∷ ring_text d1 ∷ ring_text d2 ∷ []
request_fields (SetClass path class) = codes "set_class" ∷ path ∷ class_text class ∷ []
request_fields (Status path) = codes "status" ∷ path ∷ []
request_fields (ListNames path) = codes "list" ∷ path ∷ []
request_fields (ChangeWdir path) = codes "change_wdir" ∷ path ∷ []
request_fields (SetRules rules) = codes "set_rules" ∷ map rule_text rules
request_fields (Initiate path name) = codes "initiate" ∷ path ∷ name_fields name
request_fields (Terminate segno) = codes "terminate" ∷ octal segno ∷ []
request_fields (Wakeup to word) = codes "wakeup" ∷ decimal to ∷ octal word ∷ []
request_fields Block = codes "block" ∷ []
request_fields (Link segno word) = codes "link" ∷ address_text segno word ∷ []
request_fields Resume = codes "resume" ∷ []
request_fields Logout = codes "logout" ∷ []

abbrev pub request_text : Request → List ℕ
request_text request = line_of (request_fields request)

-- What a line may say: pathnames, names and identifiers of their grammar, rings to 7, three brackets (in any order),
-- classes of a level to 7 and 18 categories, WORDS of at most five digits, the maps of objects that their fields can say,
-- segment numbers to octal 7777, addresses to octal 7777|37777, processes from 1 to 99, words of 36 bits, and 1 to 16
-- search rules.
abbrev pub is_pathname : List ℕ → Bool
is_pathname path = is_none (pathname_fault path)

abbrev pub is_identifier : PlainAclId → Bool
is_identifier id = is_none (id_fault id)

abbrev pub is_ring : ℕ → Bool
is_ring ring = nat_le ring 7

abbrev pub are_brackets : List ℕ → Bool
are_brackets brackets = nat_eq (length brackets) 3 && list_all is_ring brackets

abbrev pub is_class : PlainClass → Bool
is_class class = nat_le class.level 7 && nat_lt class.categories (2 ^ 18)

abbrev pub is_name_or_none : Option (List ℕ) → Bool
is_name_or_none None = true
is_name_or_none (Some name) = is_name name

abbrev pub is_segno : ℕ → Bool
is_segno segno = nat_le segno 4095

abbrev pub is_path : List (List ℕ) → Bool
is_path path = nat_le (length (path_text path)) 168 && list_all is_name path

abbrev pub is_rule : Rule → Bool
is_rule InitiatedSegments = true
is_rule ReferencingDir = true
is_rule WorkingDir = true
is_rule (Directory path) = is_path path

abbrev pub are_rules : List Rule → Bool
are_rules rules = nat_le 1 (length rules) && (nat_le (length rules) 16 && list_all is_rule rules)

abbrev pub is_word_address : ℕ → ℕ → Bool
is_word_address segno word = nat_le segno 4095 && nat_le word 16383

abbrev pub is_process_number : ℕ → Bool
is_process_number p = nat_le 1 p && nat_le p 99

abbrev pub is_word : ℕ → Bool
is_word word = nat_lt word (2 ^ 36)

abbrev pub fits_request : Request → Bool
fits_request (CreateDir path d1 d2) = is_pathname path && (is_ring d1 && is_ring d2)
fits_request (CreateSeg path words brackets) = is_pathname path && (nat_le words 99999 && are_brackets brackets)
fits_request (CreateObject path words brackets object) =
    is_pathname path && (nat_le words 99999 && (are_brackets brackets && fits_object object))
fits_request (CreateLink path target) = is_pathname path && is_pathname target
fits_request (Rename path name) = is_pathname path && is_name name
fits_request (Delete path) = is_pathname path
fits_request (SetAcl path id modes) = is_pathname path && is_identifier id
fits_request (DelAcl path id) = is_pathname path && is_identifier id
fits_request (SetIacl path kind id modes) = is_pathname path && is_identifier id
fits_request (DelIacl path kind id) = is_pathname path && is_identifier id
fits_request (SetBrackets path brackets) = is_pathname path && are_brackets brackets
fits_request (SetDirBrackets path d1 d2) = is_pathname path && (is_ring d1 && is_ring d2)
fits_request (SetClass path class) = is_pathname path && is_class class
fits_request (Status path) = is_pathname path
fits_request (ListNames path) = is_pathname path
fits_request (ChangeWdir path) = is_pathname path
fits_request (SetRules rules) = are_rules rules
fits_request (Initiate path name) = is_pathname path && is_name_or_none name
fits_request (Terminate segno) = is_segno segno
fits_request (Wakeup to word) = is_process_number to && is_word word
fits_request Block = true
fits_request (Link segno word) = is_word_address segno word
fits_request Resume = true
fits_request Logout = true
