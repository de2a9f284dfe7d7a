-- What the parts of a change answer is what the refusals of the request say.
use Rattle.std.proofs.Common.{◌≡◌, ◌==◌, ℕ, cond, leb, not, ◌&&◌, Bool, true, false, List, [], ◌∷◌, ◌++◌, length, Option, Some, None, Result, Ok, Err, is_none, is_some, refl, sym, ap, ◌∙◌}
use Rattle.std.specs.Option.{option_map, option_and_then}
use Rattle.mx_name.specs.Identifiers.{PlainAclId}
use Rattle.mx_acl.specs.Access.{Access, entry_of, set_fault}
use Rattle.mx_acl.specs.Modes.{suits}
use Rattle.mx_acl.specs.declared.modes.AclKind.{AclKind}
use Rattle.mx_acl.specs.declared.modes.Modes.{Modes}
use Rattle.mx_acl.specs.declared.lists.AclError.{AclError}
use Rattle.mx_acl.specs.declared.lists.AclError.TheVariants as fault
use Rattle.mx_hier.specs.declared.refusals.Refusal.{Refusal}
use Rattle.mx_hier.specs.declared.refusals.Refusal.TheVariants as refusal
use Rattle.mx_hier.specs.InitialAccess.{initial_for}
use Rattle.mx_hier.specs.Listed.{acl_refusals, iacl_refusals, iacl_fault, AclAnswers, AclTells}
use Rattle.mx_hier.specs.declared.branches.Branch.{Branch}
use Rattle.mx_hier.specs.declared.branches.Directory.{Directory}
use Rattle.mx_hier.specs.Branches.{branch_of, uid_in}
use Rattle.mx_hier.specs.Callers.{on}
use Rattle.mx_hier.specs.Rules.{first_of, unless}
use Rattle.mx_hier.proofs.MakingLaws.{first_again}

told : (a b : Bool) (result : Result (Unit {0}) AclError) → AclAnswers (cond a (Some fault.InvalidMode) (cond b (Some fault.Full) None)) result
    → AclTells (first_of ((a, refusal.InvalidMode) ∷ (b, refusal.AclFull) ∷ [])) result
told true b (Ok done) h = cc
told true b (Err fault.InvalidMode) h = refl
told true b (Err fault.Full) h = cc
told true b (Err fault.Memory) h = cc
told false true (Ok done) h = cc
told false true (Err fault.InvalidMode) h = cc
told false true (Err fault.Full) h = refl
told false true (Err fault.Memory) h = cc
told false false (Ok done) h = refl
told false false (Err fault.InvalidMode) h = cc
told false false (Err fault.Full) h = cc
told false false (Err fault.Memory) h = refl

no_list : (result : Result (Unit {0}) AclError) → AclAnswers None result → AclTells None result
no_list (Ok done) h = refl
no_list (Err fault.InvalidMode) h = cc
no_list (Err fault.Full) h = cc
no_list (Err fault.Memory) h = refl

pub acl_told : (id : PlainAclId) (modes : Modes) (acl : Option Access) (result : Result (Unit {0}) AclError)
    → AclAnswers (option_and_then (λ acl. set_fault acl id modes) acl) result → AclTells (first_of (acl_refusals id modes acl)) result
acl_told id modes None result h = no_list result h
acl_told id modes (Some acl) result h =
    told (not (suits acl.kind modes)) (is_none (entry_of acl id) && leb 64 (length acl.entries)) result h

pub iacl_told : (kind : AclKind) (id : PlainAclId) (modes : Modes) (directory : Option Directory) (result : Result (Unit {0}) AclError)
    → AclAnswers (iacl_fault kind id modes directory) result → AclTells (first_of (iacl_refusals kind id modes directory)) result
iacl_told kind id modes None result h = no_list result h
iacl_told kind id modes (Some directory) result h =
    let list = initial_for kind directory.initial in
    told (not (suits list.kind modes)) (is_none (entry_of list id) && leb 63 (length list.entries)) result h

-- a first refusal is the answer
pub refused_first : {A : Type 0} (rules own : List (Bool × Refusal)) (why : Refusal) (value : A) → Some why ≡ first_of rules
    → unless (first_of (rules ++ own)) value ≡ Err why
refused_first rules own why value is = ap (λ refusal. unless refusal value) (first_again rules own why (sym is))

-- a name that the holder does not have is free in the directory of the branch
pub name_free : (branches : List Branch) (uid : ℕ) (name : List ℕ) (branch : Branch) → branch_of branches uid ≡ Some branch → (uid == 0) ≡ false
    → on (λ dir. is_some (uid_in branches dir name)) (cond (uid == 0) (Some 0) (option_map (λ branch. branch.parent) (branch_of branches uid))) ≡ false
    → uid_in branches branch.parent name ≡ None
name_free branches uid name branch is below free =
    none (uid_in branches branch.parent name) (sym (ap (λ (found : Option Branch). on (λ dir. is_some (uid_in branches dir name)) (option_map (λ (branch : Branch). branch.parent) found)) is)
    ∙ sym (ap (λ (root : Bool). on (λ dir. is_some (uid_in branches dir name)) (cond root (Some 0) (option_map (λ (branch : Branch). branch.parent) (branch_of branches uid)))) below) ∙ free)
  where
    none : (o : Option ℕ) → is_some o ≡ false → o ≡ None
    none None h = refl
    none (Some n) h = cc
