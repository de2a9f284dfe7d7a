-- Helpers that only private contracts cite: the kinds of lines that have fields, by their first word.
use Rattle.std.specs.Prelude.{ℕ, ◌==◌, List, [], ◌∷◌, Option, codes}
use Rattle.std.specs.List.{find}
use Rattle.std.specs.Cmp.Lexicographic.{pointwise}
use Rattle.mx_request.specs.declared.reading.kinds.Kind.{Kind}
use Rattle.mx_request.specs.declared.reading.kinds.Kind.TheVariants.{CreateDir, CreateSeg, CreateObject, CreateLink, Rename, Delete, SetAcl, DelAcl, SetIaclSeg, SetIaclDir, DelIaclSeg, DelIaclDir, SetBrackets, SetDirBrackets, SetClass, Status, List as ListNames, ChangeWdir, SetRules, Initiate, Terminate, Wakeup, Link}

abbrev pub kind_word : Kind → List ℕ
kind_word CreateDir = codes "create_dir"
kind_word CreateSeg = codes "create_seg"
kind_word CreateObject = codes "create_object"
kind_word CreateLink = codes "create_link"
kind_word Rename = codes "rename"
kind_word Delete = codes "delete"
kind_word SetAcl = codes "set_acl"
kind_word DelAcl = codes "del_acl"
kind_word SetIaclSeg = codes "set_iacl_seg"
kind_word SetIaclDir = codes "set_iacl_dir"
kind_word DelIaclSeg = codes "del_iacl_seg"
kind_word DelIaclDir = codes "del_iacl_dir"
kind_word SetBrackets = codes "set_brackets"
kind_word SetDirBrackets = codes "set_dir_brackets"
kind_word SetClass = codes "set_class"
kind_word Status = codes "status"
kind_word ListNames = codes "list"
kind_word ChangeWdir = codes "change_wdir"
kind_word SetRules = codes "set_rules"
kind_word Initiate = codes "initiate"
kind_word Terminate = codes "terminate"
kind_word Wakeup = codes "wakeup"
kind_word Link = codes "link"

-- each kind once, and first what processes ask for most often
abbrev pub all_kinds : List Kind
all_kinds =
    Initiate ∷ Terminate ∷ Wakeup ∷ Link ∷ Status ∷ ListNames ∷ SetAcl ∷ DelAcl ∷ CreateDir ∷ CreateSeg ∷ CreateObject
    ∷ CreateLink ∷ Rename ∷ Delete ∷ SetIaclSeg ∷ SetIaclDir ∷ DelIaclSeg ∷ DelIaclDir ∷ SetBrackets ∷ SetDirBrackets
    ∷ SetClass ∷ ChangeWdir ∷ SetRules ∷ []

-- the kind that a word names
abbrev pub kind_of : List ℕ → Option Kind
kind_of word = find (λ kind. pointwise ◌==◌ word (kind_word kind)) all_kinds
