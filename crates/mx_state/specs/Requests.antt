-- The plain supervisor: what the request of a process in a ring is answered, and the state that it leaves.
use Rattle.std.specs.Prelude.{ℕ, Result, Ok, Err}
use Rattle.mx_hier.specs.Branches.{Hierarchy}
use Rattle.mx_hier.specs.ChangeWorkingDirectory.{directory}
use Rattle.mx_hier.specs.CreateDirectory.{create_dir}
use Rattle.mx_hier.specs.CreateLink.{create_link}
use Rattle.mx_hier.specs.CreateObject.{create_object}
use Rattle.mx_hier.specs.CreateSegment.{create_seg}
use Rattle.mx_hier.specs.Delete.{delete}
use Rattle.mx_hier.specs.DeleteAclEntry.{del_acl}
use Rattle.mx_hier.specs.InitialLists.{set_iacl, del_iacl}
use Rattle.mx_hier.specs.Initiate.{segment}
use Rattle.mx_hier.specs.List.{list}
use Rattle.mx_hier.specs.Rename.{rename}
use Rattle.mx_hier.specs.SetAcl.{set_acl}
use Rattle.mx_hier.specs.SetBrackets.{set_brackets}
use Rattle.mx_hier.specs.SetClass.{set_class}
use Rattle.mx_hier.specs.SetDirectoryBrackets.{set_dir_brackets}
use Rattle.mx_hier.specs.Status.{status}
use Rattle.mx_hier.specs.declared.refusals.Refusal.{Refusal}
use Rattle.mx_kst.specs.Terminating as kst
use Rattle.mx_request.specs.declared.requests.Request.{Request}
use Rattle.mx_request.specs.declared.requests.Request.TheVariants as ask
use Rattle.mx_request.specs.declared.replies.Reply.{Reply}
use Rattle.mx_request.specs.declared.replies.Reply.TheVariants as reply
use Rattle.mx_state.specs.Askers.{caller, on_path, on_process}
use Rattle.mx_state.specs.Knowing.{initiate, link, terminate}
use Rattle.mx_state.specs.Sections.{section_page}
use Rattle.mx_state.specs.Messages.{wakeup, block, logout}
use Rattle.mx_state.specs.OwnState.{change_wdir, set_rules}
use Rattle.mx_state.specs.Plain.{Plain, Answer, answer}
use Rattle.mx_state.specs.Shown.{shown}

-- a request that changes the hierarchy is answered `ok`, or refused
abbrev pub changed : Plain → Result Hierarchy Refusal → Answer
changed state (Ok hierarchy) = answer reply.Done (record state { hierarchy = hierarchy })
changed state (Err why) = answer (reply.Refused why) state

-- one that asks of it is answered what it asks for, or refused
abbrev pub told : {A : Type 0} → Plain → (A → Reply) → Result A Refusal → Answer
told state as_reply (Ok value) = answer (as_reply value) state
told state as_reply (Err why) = answer (reply.Refused why) state

abbrev pub plain : Plain → ℕ → ℕ → Request → Answer
plain state p ring (ask.CreateDir path d1 d2) =
    on_path state p ring (λ who. changed state (create_dir state.hierarchy who path d1 d2))
plain state p ring (ask.CreateSeg path words brackets) =
    on_path state p ring (λ who. changed state (create_seg state.hierarchy who path words brackets))
plain state p ring (ask.CreateObject path words brackets object) =
    on_path state p ring (λ who. changed state (create_object state.hierarchy who path words brackets object))
plain state p ring (ask.CreateLink path target) =
    on_path state p ring (λ who. changed state (create_link state.hierarchy who path target))
plain state p ring (ask.Rename path name) =
    on_path state p ring (λ who. changed state (rename state.hierarchy who path name))
plain state p ring (ask.Delete path) =
    on_path state p ring (λ who. changed state (delete state.hierarchy who path))
plain state p ring (ask.SetAcl path id modes) =
    on_path state p ring (λ who. changed state (set_acl state.hierarchy who path id modes))
plain state p ring (ask.DelAcl path id) =
    on_path state p ring (λ who. changed state (del_acl state.hierarchy who path id))
plain state p ring (ask.SetIacl path kind id modes) =
    on_path state p ring (λ who. changed state (set_iacl state.hierarchy who path kind id modes))
plain state p ring (ask.DelIacl path kind id) =
    on_path state p ring (λ who. changed state (del_iacl state.hierarchy who path kind id))
plain state p ring (ask.SetBrackets path brackets) =
    on_path state p ring (λ who. changed state (set_brackets state.hierarchy who path brackets))
plain state p ring (ask.SetDirBrackets path d1 d2) =
    on_path state p ring (λ who. changed state (set_dir_brackets state.hierarchy who path d1 d2))
plain state p ring (ask.SetClass path class) =
    on_path state p ring (λ who. changed state (set_class state.hierarchy who path class))
plain state p ring (ask.Status path) =
    on_path state p ring (λ who. told state (λ status. reply.Status (shown state.version status)) (status state.hierarchy who path))
plain state p ring (ask.List path) =
    on_path state p ring (λ who. told state reply.Names (list state.hierarchy who path))
plain state p ring (ask.ChangeWdir path) =
    on_process state p (λ process. change_wdir state p process (directory state.hierarchy (caller process ring) path))
plain state p ring (ask.SetRules rules) = on_process state p (λ process. set_rules state p process rules)
plain state p ring (ask.Initiate path name) =
    on_process state p (λ process. initiate state p ring process name (segment state.hierarchy (caller process ring) path))
plain state p ring (ask.Terminate segno) =
    on_process state p (λ process.
    terminate state p process (section_page process.known segno) (kst.terminate process.known segno))
plain state p ring (ask.Wakeup to word) = on_process state p (λ process. wakeup state p to word)
plain state p ring ask.Block = on_process state p (λ process. block state p)
plain state p ring (ask.Link segno word) = on_process state p (λ process. link state p ring process segno word)
plain state p ring ask.Resume = on_process state p (λ process. block state p)
plain state p ring ask.Logout = on_process state p (λ process. logout state p)
