-- Laws of who may make a request.
use Rattle.std.proofs.Common.{◌≡◌, ℕ, List, [], ◌∷◌, get_or, refl, subst, arith}
use Rattle.std.specs.List.{Contains}
use Rattle.mx_acl.specs.declared.modes.AclKind.TheVariants.{Segment as OfSegment, Directory as OfDirectory}
use Rattle.mx_request.specs.declared.requests.Request.{Request}
use Rattle.mx_request.specs.declared.requests.Request.TheVariants.{CreateDir, CreateSeg, CreateObject, CreateLink, Rename, Delete, SetAcl, DelAcl, SetIacl, DelIacl, SetBrackets, SetDirBrackets, SetClass, Status, List as ListNames, ChangeWdir, SetRules, Initiate, Terminate, Wakeup, Block, Link, Resume, Logout}
use Rattle.mx_request.specs.Classes.{class_of, words_of}
use Rattle.mx_request.specs.RequestTexts.{request_fields}

first_word : (request : Request) → Contains (words_of (class_of request)) (get_or (request_fields request) 0 [])
first_word (CreateDir path d1 d2) = (0, omega arith, refl)
first_word (CreateSeg path words brackets) = (1, omega arith, refl)
first_word (CreateObject path words brackets object) = (2, omega arith, refl)
first_word (CreateLink path target) = (3, omega arith, refl)
first_word (Rename path name) = (4, omega arith, refl)
first_word (Delete path) = (5, omega arith, refl)
first_word (SetAcl path id modes) = (6, omega arith, refl)
first_word (DelAcl path id) = (7, omega arith, refl)
first_word (SetIacl path OfSegment id modes) = (8, omega arith, refl)
first_word (SetIacl path OfDirectory id modes) = (9, omega arith, refl)
first_word (DelIacl path OfSegment id) = (10, omega arith, refl)
first_word (DelIacl path OfDirectory id) = (11, omega arith, refl)
first_word (SetBrackets path brackets) = (12, omega arith, refl)
first_word (SetDirBrackets path d1 d2) = (13, omega arith, refl)
first_word (SetClass path class) = (14, omega arith, refl)
first_word (Status path) = (15, omega arith, refl)
first_word (ListNames path) = (16, omega arith, refl)
first_word (ChangeWdir path) = (0, omega arith, refl)
first_word (SetRules rules) = (1, omega arith, refl)
first_word (Initiate path name) = (2, omega arith, refl)
first_word (Terminate segno) = (3, omega arith, refl)
first_word (Wakeup to word) = (4, omega arith, refl)
first_word Block = (5, omega arith, refl)
first_word Logout = (6, omega arith, refl)
first_word (Link segno word) = (0, omega arith, refl)
first_word Resume = (1, omega arith, refl)

-- the first word of a request's line is among those of its class
pub word_of_class : (request : Request) (word : List ℕ) (fields : List (List ℕ)) → request_fields request ≡ word ∷ fields
    → Contains (words_of (class_of request)) word
word_of_class request word fields e =
    subst (λ (all : List (List ℕ)). Contains (words_of (class_of request)) (get_or all 0 [])) e (first_word request)
