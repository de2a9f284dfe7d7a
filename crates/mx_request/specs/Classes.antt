-- Who may make a request: the setup and every process, a process alone, or the supervisor for a process.
use Rattle.std.specs.Prelude.{ℕ, List, [], ◌∷◌, codes}
use Rattle.mx_request.specs.declared.classes.RequestClass.{RequestClass}
use Rattle.mx_request.specs.declared.classes.RequestClass.TheVariants.{OfPath, OfProcess, OfSupervisor}
use Rattle.mx_request.specs.declared.requests.Request.{Request}
use Rattle.mx_request.specs.declared.requests.Request.TheVariants.{CreateDir, CreateSeg, CreateObject, CreateLink, Rename, Delete, SetAcl, DelAcl, SetIacl, DelIacl, SetBrackets, SetDirBrackets, SetClass, Status, List as ListNames, ChangeWdir, SetRules, Initiate, Terminate, Wakeup, Block, Link, Resume, Logout}

abbrev pub class_of : Request → RequestClass
class_of (CreateDir path d1 d2) = OfPath
class_of (CreateSeg path words brackets) = OfPath
class_of (CreateObject path words brackets object) = OfPath
class_of (CreateLink path target) = OfPath
class_of (Rename path name) = OfPath
class_of (Delete path) = OfPath
class_of (SetAcl path id modes) = OfPath
class_of (DelAcl path id) = OfPath
class_of (SetIacl path kind id modes) = OfPath
class_of (DelIacl path kind id) = OfPath
class_of (SetBrackets path brackets) = OfPath
class_of (SetDirBrackets path d1 d2) = OfPath
class_of (SetClass path class) = OfPath
class_of (Status path) = OfPath
class_of (ListNames path) = OfPath
class_of (ChangeWdir path) = OfProcess
class_of (SetRules rules) = OfProcess
class_of (Initiate path name) = OfProcess
class_of (Terminate segno) = OfProcess
class_of (Wakeup to word) = OfProcess
class_of Block = OfProcess
class_of (Link segno word) = OfSupervisor
class_of Resume = OfSupervisor
class_of Logout = OfProcess

-- the same by the first words of their lines
abbrev pub words_of : RequestClass → List (List ℕ)
words_of OfPath =
    codes "create_dir" ∷ codes "create_seg" ∷ codes "create_object" ∷ codes "create_link" ∷ codes "rename"
    ∷ codes "delete" ∷ codes "set_acl" ∷ codes "del_acl" ∷ codes "set_iacl_seg" ∷ codes "set_iacl_dir"
    ∷ codes "del_iacl_seg" ∷ codes "del_iacl_dir" ∷ codes "set_brackets" ∷ codes "set_dir_brackets"
    ∷ codes "set_class" ∷ codes "status" ∷ codes "list" ∷ []
words_of OfProcess =
    codes "change_wdir" ∷ codes "set_rules" ∷ codes "initiate" ∷ codes "terminate" ∷ codes "wakeup" ∷ codes "block"
    ∷ codes "logout" ∷ []
words_of OfSupervisor = codes "link" ∷ codes "resume" ∷ []
