-- Refusals that are found before any memory is taken: they are told, and never want of memory in their place.
use Rattle.std.specs.Prelude.{ℕ, List, Option, Some, None, is_some, if◌then◌else◌}
use Rattle.std.specs.Option.{option_and_then}
use Rattle.std.specs.Result.{result_err}
use Rattle.mx_hier.specs.Rules.{first_of}
use Rattle.mx_hier.specs.Walks.{resolved}
use Rattle.mx_hier.specs.declared.refusals.Refusal.{Refusal}
use Rattle.mx_hier.specs.declared.refusals.Refusal.TheVariants.{UnknownSegno, NotLinkage}
use Rattle.mx_kst.specs.Lots.{lot_of, is_branch}
use Rattle.mx_mail.specs.Processes as mail
use Rattle.mx_request.specs.declared.requests.Request.{Request}
use Rattle.mx_request.specs.declared.requests.Request.TheVariants as ask
use Rattle.mx_state.specs.Askers.{Asker, Initializer, Process, Nobody, asker, caller, initial_caller}
use Rattle.mx_state.specs.Linking.{link_at}
use Rattle.mx_state.specs.Messages.{wakeup_refusals}
use Rattle.mx_state.specs.Plain.{Plain, process_at}

-- the pathname of a request that has one
abbrev pub path_of : Request → Option (List ℕ)
path_of (ask.CreateDir path d1 d2) = Some path
path_of (ask.CreateSeg path words brackets) = Some path
path_of (ask.CreateObject path words brackets object) = Some path
path_of (ask.CreateLink path target) = Some path
path_of (ask.Rename path name) = Some path
path_of (ask.Delete path) = Some path
path_of (ask.SetAcl path id modes) = Some path
path_of (ask.DelAcl path id) = Some path
path_of (ask.SetIacl path kind id modes) = Some path
path_of (ask.DelIacl path kind id) = Some path
path_of (ask.SetBrackets path brackets) = Some path
path_of (ask.SetDirBrackets path d1 d2) = Some path
path_of (ask.SetClass path class) = Some path
path_of (ask.Status path) = Some path
path_of (ask.List path) = Some path
path_of (ask.ChangeWdir path) = Some path
path_of (ask.Initiate path name) = Some path
path_of other = None

-- it has no path from where its asker is
abbrev pub pathless : Asker → ℕ → List ℕ → Option Refusal
pathless Initializer ring path = result_err (resolved (initial_caller ring) path)
pathless (Process process) ring path = result_err (resolved (caller process ring) path)
pathless Nobody ring path = None

-- a number of process p is that of no segment of the hierarchy
abbrev pub unknown_number : Plain → ℕ → ℕ → Option Refusal
unknown_number s p segno =
    option_and_then (λ process. if is_branch (lot_of process.known.lots segno) then None else Some UnknownSegno) (process_at s.processes p)

-- there is no link at a word of process p
abbrev pub no_link : Plain → ℕ → ℕ → ℕ → Option Refusal
no_link s p segno word =
    option_and_then (λ process. if is_some (link_at s.hierarchy process.known segno word) then None else Some NotLinkage) (process_at s.processes p)

abbrev pub at_once : Plain → ℕ → ℕ → Request → Option Refusal
at_once s p ring (ask.Terminate segno) = unknown_number s p segno
at_once s p ring (ask.Wakeup to word) = first_of (wakeup_refusals (mail.process_at s.mail to))
at_once s p ring (ask.Link segno word) = no_link s p segno word
at_once s p ring request = option_and_then (pathless (asker s.processes p) ring) (path_of request)
