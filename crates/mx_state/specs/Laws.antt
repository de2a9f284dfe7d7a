-- What follows from the definitions alone, as the laws say it.
use Rattle.std.specs.Prelude.{◌≡◌, ◌≢◌, ℕ, ◌<◌, List, Some}
use Rattle.mx_name.specs.Identifiers.{PlainAclId}
use Rattle.mx_acl.specs.declared.modes.AclKind.{AclKind}
use Rattle.mx_acl.specs.declared.modes.Modes.{Modes}
use Rattle.mx_hier.specs.declared.refusals.Refusal.{Refusal}
use Rattle.mx_request.specs.Classes.{class_of}
use Rattle.mx_request.specs.declared.classes.RequestClass.TheVariants.{OfPath}
use Rattle.mx_request.specs.declared.entrants.Entrant.{Entrant}
use Rattle.mx_request.specs.declared.requests.Request.{Request}
use Rattle.mx_request.specs.declared.requests.Request.TheVariants.{SetIacl, DelIacl, Status}
use Rattle.mx_request.specs.Versions.{last_number}
use Rattle.mx_request.specs.declared.replies.Reply.{Reply}
use Rattle.mx_request.specs.declared.replies.Reply.TheVariants as reply
use Rattle.mx_request.specs.declared.replies.Reply.TheVariants.{Refused}
use Rattle.mx_sdw.specs.Descriptors.{unknown_desc}
use Rattle.mx_state.specs.declared.journal.Entry.{Entry}
use Rattle.mx_state.specs.declared.states.ProcessState.{ProcessState}
use Rattle.mx_state.specs.History.{opening, replay}
use Rattle.mx_state.specs.Plain.{Plain, process_at}
use Rattle.mx_state.specs.Requests.{plain}
use Rattle.mx_state.specs.Shown.{without_class}
use Rattle.mx_state.specs.Table.{descriptor}

-- a refusal leaves the state
abbrev pub RefusalLaw : Type 0
RefusalLaw = (s : Plain) (p ring : ℕ) (request : Request) (why : Refusal)
    → (plain s p ring request).reply ≡ Refused why → (plain s p ring request).state ≡ s

-- a request on a path leaves what is the processes' own, and the mail
abbrev pub PathLaw : Type 0
PathLaw = (s : Plain) (p ring : ℕ) (request : Request) → class_of request ≡ OfPath
    → ((plain s p ring request).state.processes ≡ s.processes) × ((plain s p ring request).state.mail ≡ s.mail)

-- no process knows a number beyond its last
abbrev pub OwnLastLaw : Type 0
OwnLastLaw = (s : Plain) (p segno : ℕ) (process : ProcessState) → process_at s.processes p ≡ Some process
    → process.known.last < segno → descriptor s p segno ≡ unknown_desc

-- and whatever entries are made, none knows one beyond the last of the version
abbrev pub UnknownLaw : Type 0
UnknownLaw = (version : ℕ) (entrants : List Entrant) (entries : List Entry) (p segno : ℕ) → last_number version < segno
    → descriptor (replay (opening version entrants) entries) p segno ≡ unknown_desc

-- an initial access list is in no descriptor
abbrev pub SetInitialLaw : Type 0
SetInitialLaw = (s : Plain) (p ring q segno : ℕ) (path : List ℕ) (kind : AclKind) (id : PlainAclId) (modes : Modes)
    → descriptor (plain s p ring (SetIacl path kind id modes)).state q segno ≡ descriptor s q segno

abbrev pub DeleteInitialLaw : Type 0
DeleteInitialLaw = (s : Plain) (p ring q segno : ℕ) (path : List ℕ) (kind : AclKind) (id : PlainAclId)
    → descriptor (plain s p ring (DelIacl path kind id)).state q segno ≡ descriptor s q segno

-- A request in a session of another version leaves the same state but for the version, and is replied the same: `status`
-- the same but for the class of a segment.
abbrev pub at_version : Plain → ℕ → Plain
at_version s version = record s { version = version }

abbrev pub reply_without_class : Reply → Reply
reply_without_class (reply.Status status) = reply.Status (without_class status)
reply_without_class given = given

pub record IsSameAt (s : Plain) (version p ring : ℕ) (request : Request) : Type 0 where
  pub state : (plain (at_version s version) p ring request).state ≡ at_version (plain s p ring request).state version
  pub reply : ((path : List ℕ) → request ≢ Status path)
      → (plain (at_version s version) p ring request).reply ≡ (plain s p ring request).reply
  pub status : reply_without_class (plain (at_version s version) p ring request).reply
      ≡ reply_without_class (plain s p ring request).reply

abbrev pub VersionLaw : Type 0
VersionLaw = (s : Plain) (version p ring : ℕ) (request : Request) → IsSameAt s version p ring request
