-- Helpers that only private contracts cite: what is meant by the requests that change the hierarchy, in three kinds.
use Rattle.std.specs.Prelude.{ℕ, Bool, List, Result, Ok}
use Rattle.mx_hier.specs.Branches.{Hierarchy}
use Rattle.mx_hier.specs.Callers.{Caller, Subject}
use Rattle.mx_hier.specs.CreateDirectory.{create_dir}
use Rattle.mx_hier.specs.CreateLink.{create_link}
use Rattle.mx_hier.specs.CreateObject.{create_object}
use Rattle.mx_hier.specs.CreateSegment.{create_seg}
use Rattle.mx_hier.specs.Delete.{delete_at}
use Rattle.mx_hier.specs.DeleteAclEntry.{del_acl_at}
use Rattle.mx_hier.specs.Rename.{rename_at}
use Rattle.mx_hier.specs.Rules.{onward}
use Rattle.mx_hier.specs.SetAcl.{set_acl_at}
use Rattle.mx_hier.specs.SetBrackets.{set_brackets_at}
use Rattle.mx_hier.specs.SetClass.{set_class_at}
use Rattle.mx_hier.specs.InitialLists.{set_iacl_at, del_iacl_at}
use Rattle.mx_hier.specs.SetDirectoryBrackets.{set_dir_brackets_at}
use Rattle.mx_hier.specs.Walks.{entry}
use Rattle.mx_hier.specs.declared.refusals.Refusal.{Refusal}
use Rattle.mx_request.specs.declared.requests.Request.{Request}
use Rattle.mx_request.specs.declared.requests.Request.TheVariants as ask
use Rattle.mx_state.specs.Askers.{on_path}
use Rattle.mx_state.specs.Plain.{Plain, Answer}
use Rattle.mx_state.specs.Requests.{changed}

-- one that makes an entry; another makes none
abbrev pub created : Hierarchy → Caller → Request → Result Hierarchy Refusal
created h who (ask.CreateDir path d1 d2) = create_dir h who path d1 d2
created h who (ask.CreateSeg path words brackets) = create_seg h who path words brackets
created h who (ask.CreateObject path words brackets object) = create_object h who path words brackets object
created h who (ask.CreateLink path target) = create_link h who path target
created h who other = Ok h

-- one that changes an entry and no descriptor
abbrev pub amended_at : Hierarchy → Subject → ℕ → Request → Result Hierarchy Refusal
amended_at h who uid (ask.Rename path name) = rename_at h who uid name
amended_at h who uid (ask.SetIacl path kind id modes) = set_iacl_at h who uid kind id modes
amended_at h who uid (ask.DelIacl path kind id) = del_iacl_at h who uid kind id
amended_at h who uid (ask.SetDirBrackets path d1 d2) = set_dir_brackets_at h who uid d1 d2
amended_at h who uid other = Ok h

-- one that changes an entry, and with it the descriptors of those who know its segment
abbrev pub altered_at : Hierarchy → Subject → ℕ → Request → Result Hierarchy Refusal
altered_at h who uid (ask.Delete path) = delete_at h who uid
altered_at h who uid (ask.SetAcl path id modes) = set_acl_at h who uid id modes
altered_at h who uid (ask.DelAcl path id) = del_acl_at h who uid id
altered_at h who uid (ask.SetBrackets path brackets) = set_brackets_at h who uid brackets
altered_at h who uid (ask.SetClass path class) = set_class_at h who uid class
altered_at h who uid other = Ok h

abbrev pub creation : Plain → ℕ → ℕ → Request → Answer
creation s p ring request = on_path s p ring (λ who. changed s (created s.hierarchy who request))

-- the same of the entry at a path, by what its own links lead to or itself
abbrev pub amendment : Plain → ℕ → ℕ → List ℕ → Bool → Request → Answer
amendment s p ring path follow request = on_path s p ring (λ who. changed s
    (onward (entry s.hierarchy who path follow) (λ uid. amended_at s.hierarchy who.subject uid request)))

abbrev pub alteration : Plain → ℕ → ℕ → List ℕ → Bool → Request → Answer
alteration s p ring path follow request = on_path s p ring (λ who. changed s
    (onward (entry s.hierarchy who path follow) (λ uid. altered_at s.hierarchy who.subject uid request)))
