-- Helpers that only private contracts cite: what is meant by each request that changes the hierarchy.
use Rattle.std.specs.Prelude.{Result, Ok}
use Rattle.mx_hier.specs.Branches.{Hierarchy}
use Rattle.mx_hier.specs.Callers.{Caller}
use Rattle.mx_hier.specs.CreateDirectory.{create_dir}
use Rattle.mx_hier.specs.CreateLink.{create_link}
use Rattle.mx_hier.specs.CreateObject.{create_object}
use Rattle.mx_hier.specs.CreateSegment.{create_seg}
use Rattle.mx_hier.specs.Delete.{delete}
use Rattle.mx_hier.specs.DeleteAclEntry.{del_acl}
use Rattle.mx_hier.specs.InitialLists.{set_iacl, del_iacl}
use Rattle.mx_hier.specs.Rename.{rename}
use Rattle.mx_hier.specs.SetAcl.{set_acl}
use Rattle.mx_hier.specs.SetBrackets.{set_brackets}
use Rattle.mx_hier.specs.SetClass.{set_class}
use Rattle.mx_hier.specs.SetDirectoryBrackets.{set_dir_brackets}
use Rattle.mx_hier.specs.declared.refusals.Refusal.{Refusal}
use Rattle.mx_request.specs.declared.requests.Request.{Request}
use Rattle.mx_request.specs.declared.requests.Request.TheVariants as ask

abbrev pub meant_by : Hierarchy → Caller → Request → Result Hierarchy Refusal
meant_by h who (ask.CreateDir path d1 d2) = create_dir h who path d1 d2
meant_by h who (ask.CreateSeg path words brackets) = create_seg h who path words brackets
meant_by h who (ask.CreateObject path words brackets object) = create_object h who path words brackets object
meant_by h who (ask.CreateLink path target) = create_link h who path target
meant_by h who (ask.Rename path name) = rename h who path name
meant_by h who (ask.Delete path) = delete h who path
meant_by h who (ask.SetAcl path id modes) = set_acl h who path id modes
meant_by h who (ask.DelAcl path id) = del_acl h who path id
meant_by h who (ask.SetIacl path kind id modes) = set_iacl h who path kind id modes
meant_by h who (ask.DelIacl path kind id) = del_iacl h who path kind id
meant_by h who (ask.SetBrackets path brackets) = set_brackets h who path brackets
meant_by h who (ask.SetDirBrackets path d1 d2) = set_dir_brackets h who path d1 d2
meant_by h who (ask.SetClass path class) = set_class h who path class
meant_by h who other = Ok h
