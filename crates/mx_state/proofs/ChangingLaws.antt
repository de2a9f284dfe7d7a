-- Which segments stand as they did after each request that changes the hierarchy.
use Rattle.std.proofs.Common.{ℕ}
use Rattle.mx_hier.specs.Branches.{Hierarchy}
use Rattle.mx_hier.specs.Callers.{Caller, Subject}
use Rattle.mx_request.specs.declared.requests.Request.{Request}
use Rattle.mx_request.specs.declared.requests.Request.TheVariants as ask
use Rattle.mx_state.specs.Changing.{created, amended_at, altered_at}
use Rattle.mx_state.proofs.SegmentLaws.{Leaves, Nothing, Only, leaves_ok, as_it_was, create_dir_leaves, create_seg_leaves, create_object_leaves, create_link_leaves, rename_leaves, set_dir_brackets_leaves, set_iacl_leaves, del_iacl_leaves, delete_leaves, set_acl_leaves, del_acl_leaves, set_brackets_leaves, set_class_leaves}

pub created_leaves : (h : Hierarchy) (who : Caller) (request : Request) → Leaves Nothing h (created h who request)
created_leaves h who (ask.CreateDir path d1 d2) = create_dir_leaves h who path d1 d2
created_leaves h who (ask.CreateSeg path words brackets) = create_seg_leaves h who path words brackets
created_leaves h who (ask.CreateObject path words brackets object) = create_object_leaves h who path words brackets object
created_leaves h who (ask.CreateLink path target) = create_link_leaves h who path target
created_leaves h who other = leaves_ok Nothing h h (as_it_was Nothing h)

pub amended_leaves : (h : Hierarchy) (who : Subject) (uid : ℕ) (request : Request) → Leaves Nothing h (amended_at h who uid request)
amended_leaves h who uid (ask.Rename path name) = rename_leaves h who uid name
amended_leaves h who uid (ask.SetIacl path kind id modes) = set_iacl_leaves h who uid kind id modes
amended_leaves h who uid (ask.DelIacl path kind id) = del_iacl_leaves h who uid kind id
amended_leaves h who uid (ask.SetDirBrackets path d1 d2) = set_dir_brackets_leaves h who uid d1 d2
amended_leaves h who uid other = leaves_ok Nothing h h (as_it_was Nothing h)

pub altered_leaves : (h : Hierarchy) (who : Subject) (uid : ℕ) (request : Request) → Leaves (Only uid) h (altered_at h who uid request)
altered_leaves h who uid (ask.Delete path) = delete_leaves h who uid
altered_leaves h who uid (ask.SetAcl path id modes) = set_acl_leaves h who uid id modes
altered_leaves h who uid (ask.DelAcl path id) = del_acl_leaves h who uid id
altered_leaves h who uid (ask.SetBrackets path brackets) = set_brackets_leaves h who uid brackets
altered_leaves h who uid (ask.SetClass path class) = set_class_leaves h who uid class
altered_leaves h who uid other = leaves_ok (Only uid) h h (as_it_was (Only uid) h)
