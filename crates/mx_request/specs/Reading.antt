-- Helpers that only private contracts cite: what a line is read as, by its first word, and the fields of each kind.
use Rattle.std.specs.Prelude.{ℕ, zero, suc, ◌-◌, ◌==◌, List, [], ◌∷◌, ◌++◌, Option, None, Some, codes, if◌then◌else◌}
use Rattle.std.specs.Cmp.Lexicographic.{pointwise}
use Rattle.std.specs.Result.{result_ok}
use Rattle.mx_name.specs.Cuts.{cut_at}
use Rattle.mx_name.specs.Names.{name_of}
use Rattle.mx_name.specs.Pathnames.{is_absolute, pathname_of}
use Rattle.mx_name.specs.Paths.{resolution}
use Rattle.mx_name.specs.Identifiers.{acl_id_of}
use Rattle.mx_sdw.specs.Octal.{is_octal_digit, octal_number}
use Rattle.mx_aim.specs.Classes.{class_of_text}
use Rattle.mx_acl.specs.Modes.{modes_of_text}
use Rattle.mx_acl.specs.declared.modes.AclKind.{AclKind}
use Rattle.mx_acl.specs.declared.modes.AclKind.TheVariants.{Segment as OfSegment, Directory as OfDirectory}
use Rattle.mx_search.specs.Rules.{rules_of}
use Rattle.mx_search.specs.declared.rules.Rule.{Rule}
use Rattle.mx_search.specs.declared.rules.Rule.TheVariants.{InitiatedSegments, ReferencingDir, WorkingDir, Directory}
use Rattle.mx_request.specs.declared.requests.Request.{Request}
use Rattle.mx_request.specs.declared.requests.Request.TheVariants.{CreateDir, CreateSeg, CreateObject, CreateLink, Rename, Delete, SetAcl, DelAcl, SetIacl, DelIacl, SetBrackets, SetDirBrackets, SetClass, Status, List as ListNames, ChangeWdir, SetRules, Initiate, Terminate, Wakeup, Block, Link, Resume, Logout}
use Rattle.mx_request.specs.declared.reading.kinds.Kind.{Kind}
use Rattle.mx_request.specs.declared.reading.kinds.Kind.TheVariants.{CreateDir as OfCreateDir, CreateSeg as OfCreateSeg, CreateObject as OfCreateObject, CreateLink as OfCreateLink, Rename as OfRename, Delete as OfDelete, SetAcl as OfSetAcl, DelAcl as OfDelAcl, SetIaclSeg as OfSetIaclSeg, SetIaclDir as OfSetIaclDir, DelIaclSeg as OfDelIaclSeg, DelIaclDir as OfDelIaclDir, SetBrackets as OfSetBrackets, SetDirBrackets as OfSetDirBrackets, SetClass as OfSetClass, Status as OfStatus, List as OfList, ChangeWdir as OfChangeWdir, SetRules as OfSetRules, Initiate as OfInitiate, Terminate as OfTerminate, Wakeup as OfWakeup, Link as OfLink}
use Rattle.mx_request.specs.Decimals.{decimal_number}
use Rattle.mx_request.specs.Kinds.{kind_of}
use Rattle.mx_request.specs.ReadingObjects.{object_at}
use Rattle.mx_request.specs.RequestTexts.{is_process_number}
use Rattle.mx_request.specs.Steps.{◌>>=◌, when}
use Rattle.mx_request.specs.WordNumbers.{word_number_of}

abbrev pub ring_at : List ℕ → Option ℕ
ring_at (c ∷ []) = when (is_octal_digit c) (c - 48)
ring_at _ = None

abbrev pub brackets_at : List ℕ → Option (List ℕ)
brackets_at text =
    cut_at 32 text >>= λ p.
    cut_at 32 p.1 >>= λ q.
    ring_at p.0 >>= λ r1.
    ring_at q.0 >>= λ r2.
    ring_at q.1 >>= λ r3.
    Some (r1 ∷ r2 ∷ r3 ∷ [])

-- three rings, and what stands behind them
abbrev pub brackets_before : List ℕ → Option (List ℕ × List ℕ)
brackets_before text =
    cut_at 32 text >>= λ p.
    cut_at 32 p.1 >>= λ q.
    cut_at 32 q.1 >>= λ r.
    ring_at p.0 >>= λ r1.
    ring_at q.0 >>= λ r2.
    ring_at r.0 >>= λ r3.
    Some (r1 ∷ r2 ∷ r3 ∷ [], r.1)

-- what follows the word of each kind of line
abbrev pub create_dir_at : List ℕ → Option Request
create_dir_at text =
    cut_at 32 text >>= λ p.
    cut_at 32 p.1 >>= λ q.
    ring_at q.0 >>= λ d1.
    ring_at q.1 >>= λ d2.
    pathname_of p.0 >>= λ path.
    Some (CreateDir path d1 d2)

abbrev pub create_seg_at : List ℕ → Option Request
create_seg_at text =
    cut_at 32 text >>= λ p.
    cut_at 32 p.1 >>= λ q.
    decimal_number 5 q.0 >>= λ words.
    brackets_at q.1 >>= λ brackets.
    pathname_of p.0 >>= λ path.
    Some (CreateSeg path words brackets)

abbrev pub create_object_at : List ℕ → Option Request
create_object_at text =
    cut_at 32 text >>= λ p.
    cut_at 32 p.1 >>= λ q.
    decimal_number 5 q.0 >>= λ words.
    brackets_before q.1 >>= λ r.
    object_at r.1 >>= λ object.
    pathname_of p.0 >>= λ path.
    Some (CreateObject path words r.0 object)

abbrev pub create_link_at : List ℕ → Option Request
create_link_at text =
    cut_at 32 text >>= λ p.
    pathname_of p.0 >>= λ path.
    pathname_of p.1 >>= λ target.
    Some (CreateLink path target)

abbrev pub rename_at : List ℕ → Option Request
rename_at text =
    cut_at 32 text >>= λ p.
    name_of p.1 >>= λ name.
    pathname_of p.0 >>= λ path.
    Some (Rename path name)

abbrev pub delete_at : List ℕ → Option Request
delete_at text = pathname_of text >>= λ path. Some (Delete path)

abbrev pub set_acl_at : List ℕ → Option Request
set_acl_at text =
    cut_at 32 text >>= λ p.
    cut_at 32 p.1 >>= λ q.
    modes_of_text q.1 >>= λ modes.
    acl_id_of q.0 >>= λ id.
    pathname_of p.0 >>= λ path.
    Some (SetAcl path id modes)

abbrev pub del_acl_at : List ℕ → Option Request
del_acl_at text =
    cut_at 32 text >>= λ p.
    acl_id_of p.1 >>= λ id.
    pathname_of p.0 >>= λ path.
    Some (DelAcl path id)

-- of a directory's initial access list of this kind
abbrev pub set_iacl_at : AclKind → List ℕ → Option Request
set_iacl_at kind text =
    cut_at 32 text >>= λ p.
    cut_at 32 p.1 >>= λ q.
    modes_of_text q.1 >>= λ modes.
    acl_id_of q.0 >>= λ id.
    pathname_of p.0 >>= λ path.
    Some (SetIacl path kind id modes)

abbrev pub del_iacl_at : AclKind → List ℕ → Option Request
del_iacl_at kind text =
    cut_at 32 text >>= λ p.
    acl_id_of p.1 >>= λ id.
    pathname_of p.0 >>= λ path.
    Some (DelIacl path kind id)

abbrev pub set_brackets_at : List ℕ → Option Request
set_brackets_at text =
    cut_at 32 text >>= λ p.
    brackets_at p.1 >>= λ brackets.
    pathname_of p.0 >>= λ path.
    Some (SetBrackets path brackets)

abbrev pub set_dir_brackets_at : List ℕ → Option Request
set_dir_brackets_at text =
    cut_at 32 text >>= λ p.
    cut_at 32 p.1 >>= λ q.
    ring_at q.0 >>= λ d1.
    ring_at q.1 >>= λ d2.
    pathname_of p.0 >>= λ path.
    Some (SetDirBrackets path d1 d2)

abbrev pub set_class_at : List ℕ → Option Request
set_class_at text =
    cut_at 32 text >>= λ p.
    class_of_text p.1 >>= λ class.
    pathname_of p.0 >>= λ path.
    Some (SetClass path class)

abbrev pub status_at : List ℕ → Option Request
status_at text = pathname_of text >>= λ path. Some (Status path)

abbrev pub list_at : List ℕ → Option Request
list_at text = pathname_of text >>= λ path. Some (ListNames path)

abbrev pub change_wdir_at : List ℕ → Option Request
change_wdir_at text = pathname_of text >>= λ path. Some (ChangeWdir path)

-- an absolute pathname, as its path
abbrev pub directory_at : List ℕ → Option Rule
directory_at text =
    when (is_absolute text) text >>= λ text.
    pathname_of text >>= λ pathname.
    result_ok (resolution [] pathname) >>= λ path.
    Some (Directory path)

abbrev pub rule_at : List ℕ → Option Rule
rule_at text =
    if pointwise ◌==◌ text (codes "initiated_segments") then Some InitiatedSegments
    else (if pointwise ◌==◌ text (codes "referencing_dir") then Some ReferencingDir
    else (if pointwise ◌==◌ text (codes "working_dir") then Some WorkingDir
    else directory_at text))

-- rules, with a blank between each two, and at most so many
abbrev pub rules_by : List ℕ → Option (List ℕ × List ℕ) → (List ℕ → Option (List Rule)) → Option (List Rule)
rules_by text None more = rule_at text >>= λ rule. Some (rule ∷ [])
rules_by text (Some p) more = rule_at p.0 >>= λ rule. more p.1 >>= λ rules. Some (rule ∷ rules)

unfoldable pub rules_at : ℕ → List ℕ → Option (List Rule)
rules_at zero text = None
rules_at (suc left) text = rules_by text (cut_at 32 text) (rules_at left)

-- these rules, and then those
abbrev pub rules_after : List Rule → Option (List Rule) → Option (List Rule)
rules_after first more = more >>= λ rules. Some (first ++ rules)

abbrev pub set_rules_at : List ℕ → Option Request
set_rules_at text = rules_at 16 text >>= λ rules. rules_of rules >>= λ rules. Some (SetRules rules)

-- with a name behind the pathname, or without
abbrev pub initiate_by : List ℕ → Option (List ℕ × List ℕ) → Option Request
initiate_by text None = pathname_of text >>= λ path. Some (Initiate path None)
initiate_by text (Some p) =
    name_of p.1 >>= λ name. pathname_of p.0 >>= λ path. Some (Initiate path (Some name))

abbrev pub initiate_at : List ℕ → Option Request
initiate_at text = initiate_by text (cut_at 32 text)

abbrev pub terminate_at : List ℕ → Option Request
terminate_at text = octal_number 4 text >>= λ segno. Some (Terminate segno)

abbrev pub wakeup_at : List ℕ → Option Request
wakeup_at text =
    cut_at 32 text >>= λ p.
    decimal_number 2 p.0 >>= λ to.
    octal_number 12 p.1 >>= λ word.
    when (is_process_number to) (Wakeup to word)

abbrev pub link_at : List ℕ → Option Request
link_at text =
    cut_at 124 text >>= λ p.
    octal_number 4 p.0 >>= λ segno.
    word_number_of p.1 >>= λ word.
    Some (Link segno word)

-- the fields of a line of each kind
abbrev pub fields_at : Kind → List ℕ → Option Request
fields_at OfCreateDir text = create_dir_at text
fields_at OfCreateSeg text = create_seg_at text
fields_at OfCreateObject text = create_object_at text
fields_at OfCreateLink text = create_link_at text
fields_at OfRename text = rename_at text
fields_at OfDelete text = delete_at text
fields_at OfSetAcl text = set_acl_at text
fields_at OfDelAcl text = del_acl_at text
fields_at OfSetIaclSeg text = set_iacl_at OfSegment text
fields_at OfSetIaclDir text = set_iacl_at OfDirectory text
fields_at OfDelIaclSeg text = del_iacl_at OfSegment text
fields_at OfDelIaclDir text = del_iacl_at OfDirectory text
fields_at OfSetBrackets text = set_brackets_at text
fields_at OfSetDirBrackets text = set_dir_brackets_at text
fields_at OfSetClass text = set_class_at text
fields_at OfStatus text = status_at text
fields_at OfList text = list_at text
fields_at OfChangeWdir text = change_wdir_at text
fields_at OfSetRules text = set_rules_at text
fields_at OfInitiate text = initiate_at text
fields_at OfTerminate text = terminate_at text
fields_at OfWakeup text = wakeup_at text
fields_at OfLink text = link_at text

-- a line with a word and fields
abbrev pub worded_at : List ℕ → Option Request
worded_at line = cut_at 32 line >>= λ p. kind_of p.0 >>= λ kind. fields_at kind p.1

-- a line that is one word
abbrev pub bare_at : List ℕ → Option Request
bare_at line =
    if pointwise ◌==◌ line (codes "block") then Some Block
    else (if pointwise ◌==◌ line (codes "resume") then Some Resume
    else (if pointwise ◌==◌ line (codes "logout") then Some Logout
    else None))

abbrev pub bare_or_worded : Option Request → List ℕ → Option Request
bare_or_worded (Some request) line = Some request
bare_or_worded None line = worded_at line

-- what a line is read as
unfoldable pub request_at : List ℕ → Option Request
request_at line = bare_or_worded (bare_at line) line
