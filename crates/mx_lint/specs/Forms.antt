-- The kinds of lines of a session text: the first word of each, the fields behind it, how many of these a line must have, whose line it
-- is, and the version from which on a session may have it.
use Rattle.std.specs.Prelude.{◌≡◌, ℕ, ◌==◌, List, [], ◌∷◌, length, replicate, Option, codes}
use Rattle.std.specs.List.{find}
use Rattle.std.specs.Cmp.Lexicographic.{pointwise}
use Rattle.mx_lint.specs.declared.fields.Field.{Field}
use Rattle.mx_lint.specs.declared.fields.Field.TheVariants.{Version, Limit, Principal, Authorization, Class, Path, Target, Words, R1, R2, R3, D1, D2, Gate, Name, Id, Modes, Rule, Segno, Receiver, Word, Register, Operand}
use Rattle.mx_lint.specs.declared.forms.Form.{Form}
use Rattle.mx_lint.specs.declared.forms.Form.TheVariants as kind
use Rattle.mx_lint.specs.declared.forms.Group.{Group}
use Rattle.mx_lint.specs.declared.forms.Group.TheVariants as group

abbrev pub word_of : Form → List ℕ
word_of kind.Header = codes "multics"
word_of kind.History = codes "history"
word_of kind.Process = codes "process"
word_of kind.Logout = codes "logout"
word_of kind.End = codes "end"
word_of kind.CreateDir = codes "create_dir"
word_of kind.CreateSeg = codes "create_seg"
word_of kind.CreateObject = codes "create_object"
word_of kind.CreateLink = codes "create_link"
word_of kind.Rename = codes "rename"
word_of kind.Delete = codes "delete"
word_of kind.SetAcl = codes "set_acl"
word_of kind.DelAcl = codes "del_acl"
word_of kind.SetIaclSeg = codes "set_iacl_seg"
word_of kind.SetIaclDir = codes "set_iacl_dir"
word_of kind.DelIaclSeg = codes "del_iacl_seg"
word_of kind.DelIaclDir = codes "del_iacl_dir"
word_of kind.SetBrackets = codes "set_brackets"
word_of kind.SetDirBrackets = codes "set_dir_brackets"
word_of kind.SetClass = codes "set_class"
word_of kind.Status = codes "status"
word_of kind.List = codes "list"
word_of kind.ChangeWdir = codes "change_wdir"
word_of kind.SetRules = codes "set_rules"
word_of kind.Initiate = codes "initiate"
word_of kind.Terminate = codes "terminate"
word_of kind.Wakeup = codes "wakeup"
word_of kind.Block = codes "block"
word_of kind.Set = codes "set"
word_of kind.Epp = codes "epp"
word_of kind.Lda = codes "lda"
word_of kind.Sta = codes "sta"
word_of kind.Spri = codes "spri"
word_of kind.Fetch = codes "fetch"
word_of kind.Call = codes "call"
word_of kind.Return = codes "return"
word_of kind.Link = codes "link"
word_of kind.Resume = codes "resume"

-- behind those of an object stand its definitions and links
abbrev pub fields_of : Form → List Field
fields_of kind.Header = Version ∷ []
fields_of kind.History = Limit ∷ []
fields_of kind.Process = Principal ∷ Authorization ∷ []
fields_of kind.Logout = []
fields_of kind.End = []
fields_of kind.CreateDir = Path ∷ D1 ∷ D2 ∷ []
fields_of kind.CreateSeg = Path ∷ Words ∷ R1 ∷ R2 ∷ R3 ∷ []
fields_of kind.CreateObject = Path ∷ Words ∷ R1 ∷ R2 ∷ R3 ∷ Gate ∷ []
fields_of kind.CreateLink = Path ∷ Target ∷ []
fields_of kind.Rename = Path ∷ Name ∷ []
fields_of kind.Delete = Path ∷ []
fields_of kind.SetAcl = Path ∷ Id ∷ Modes ∷ []
fields_of kind.DelAcl = Path ∷ Id ∷ []
fields_of kind.SetIaclSeg = Path ∷ Id ∷ Modes ∷ []
fields_of kind.SetIaclDir = Path ∷ Id ∷ Modes ∷ []
fields_of kind.DelIaclSeg = Path ∷ Id ∷ []
fields_of kind.DelIaclDir = Path ∷ Id ∷ []
fields_of kind.SetBrackets = Path ∷ R1 ∷ R2 ∷ R3 ∷ []
fields_of kind.SetDirBrackets = Path ∷ D1 ∷ D2 ∷ []
fields_of kind.SetClass = Path ∷ Class ∷ []
fields_of kind.Status = Path ∷ []
fields_of kind.List = Path ∷ []
fields_of kind.ChangeWdir = Path ∷ []
fields_of kind.SetRules = replicate 16 Rule
fields_of kind.Initiate = Path ∷ Name ∷ []
fields_of kind.Terminate = Segno ∷ []
fields_of kind.Wakeup = Receiver ∷ Word ∷ []
fields_of kind.Block = []
fields_of kind.Set = Word ∷ []
fields_of kind.Epp = Register ∷ Operand ∷ []
fields_of kind.Lda = Operand ∷ []
fields_of kind.Sta = Operand ∷ []
fields_of kind.Spri = Register ∷ Operand ∷ []
fields_of kind.Fetch = []
fields_of kind.Call = Operand ∷ []
fields_of kind.Return = Operand ∷ []
fields_of kind.Link = Operand ∷ []
fields_of kind.Resume = []

-- all fields must be there, but for the class of a process, the name of a segment that is initiated, and the rules behind the first
abbrev pub least_of : Form → ℕ
least_of kind.Process = 1
least_of kind.Initiate = 1
least_of kind.SetRules = 1
least_of form = length (fields_of form)

-- the five lines that hold a session together stand each for itself; the others are requests on paths, in the setup and in scripts,
-- what a process alone can do, in scripts, and what the supervisor enters for a process, in no session
abbrev pub group_of : Form → Group
group_of kind.Header = group.Header
group_of kind.History = group.Limit
group_of kind.Process = group.Process
group_of kind.Logout = group.Logout
group_of kind.End = group.End
group_of kind.CreateDir = group.OfPath
group_of kind.CreateSeg = group.OfPath
group_of kind.CreateObject = group.OfPath
group_of kind.CreateLink = group.OfPath
group_of kind.Rename = group.OfPath
group_of kind.Delete = group.OfPath
group_of kind.SetAcl = group.OfPath
group_of kind.DelAcl = group.OfPath
group_of kind.SetIaclSeg = group.OfPath
group_of kind.SetIaclDir = group.OfPath
group_of kind.DelIaclSeg = group.OfPath
group_of kind.DelIaclDir = group.OfPath
group_of kind.SetBrackets = group.OfPath
group_of kind.SetDirBrackets = group.OfPath
group_of kind.SetClass = group.OfPath
group_of kind.Status = group.OfPath
group_of kind.List = group.OfPath
group_of kind.ChangeWdir = group.OfProcess
group_of kind.SetRules = group.OfProcess
group_of kind.Initiate = group.OfProcess
group_of kind.Terminate = group.OfProcess
group_of kind.Wakeup = group.OfProcess
group_of kind.Block = group.OfProcess
group_of kind.Set = group.OfProcess
group_of kind.Epp = group.OfProcess
group_of kind.Lda = group.OfProcess
group_of kind.Sta = group.OfProcess
group_of kind.Spri = group.OfProcess
group_of kind.Fetch = group.OfProcess
group_of kind.Call = group.OfProcess
group_of kind.Return = group.OfProcess
group_of kind.Link = group.OfSupervisor
group_of kind.Resume = group.OfSupervisor

abbrev pub since_of : Form → ℕ
since_of kind.SetClass = 2
since_of kind.SetIaclSeg = 3
since_of kind.SetIaclDir = 3
since_of kind.DelIaclSeg = 3
since_of kind.DelIaclDir = 3
since_of form = 1

abbrev pub all_forms : List Form
all_forms =
    kind.Header ∷ kind.History ∷ kind.Process ∷ kind.Logout ∷ kind.End ∷ kind.CreateDir ∷ kind.CreateSeg ∷ kind.CreateObject
    ∷ kind.CreateLink ∷ kind.Rename ∷ kind.Delete ∷ kind.SetAcl ∷ kind.DelAcl ∷ kind.SetIaclSeg ∷ kind.SetIaclDir ∷ kind.DelIaclSeg
    ∷ kind.DelIaclDir ∷ kind.SetBrackets ∷ kind.SetDirBrackets ∷ kind.SetClass ∷ kind.Status ∷ kind.List ∷ kind.ChangeWdir
    ∷ kind.SetRules ∷ kind.Initiate ∷ kind.Terminate ∷ kind.Wakeup ∷ kind.Block ∷ kind.Set ∷ kind.Epp ∷ kind.Lda ∷ kind.Sta ∷ kind.Spri
    ∷ kind.Fetch ∷ kind.Call ∷ kind.Return ∷ kind.Link ∷ kind.Resume ∷ []

-- the kind whose lines begin with this word
abbrev pub form_named : List ℕ → Option Form
form_named word = find (λ form. pointwise ◌==◌ word (word_of form)) all_forms

-- no kind has this word
abbrev pub IsNoWord : List ℕ → Type 0
IsNoWord word = (form : Form) → word ≡ word_of form → ⊥
