-- A history of the plain supervisor: what its state is after a journal, and when a journal is right.
use Rattle.std.specs.Prelude.{◌≡◌, ℕ, ◌*◌, ◌≤◌, List, [], ◌∷◌, length, map}
use Rattle.mx_hier.specs.Opening as hierarchy
use Rattle.mx_kst.specs.KnownSegments.{at_first}
use Rattle.mx_mail.specs.Processes.{all_running}
use Rattle.mx_request.specs.Classes.{class_of}
use Rattle.mx_request.specs.declared.classes.RequestClass.TheVariants.{OfPath}
use Rattle.mx_request.specs.declared.entrants.Entrant.{Entrant}
use Rattle.mx_request.specs.declared.requests.Request.{Request}
use Rattle.mx_request.specs.Versions.{last_number}
use Rattle.mx_search.specs.Rules.{opening_rules}
use Rattle.mx_state.specs.declared.journal.Entry.{Entry}
use Rattle.mx_state.specs.declared.states.ProcessState.{ProcessState}
use Rattle.mx_state.specs.Plain.{Plain}
use Rattle.mx_state.specs.Requests.{plain}

-- a process at the start works in the root, with the rules of every process, and knows its stacks alone
abbrev pub fresh : ℕ → Entrant → ProcessState
fresh version entrant = record {
  principal = entrant.who;
  authorization = entrant.authorization;
  working_directory = [];
  rules = opening_rules;
  known = at_first (last_number version);
}

-- the state before any entry: the first pages are those of the stacks, eight for each process, and each process runs
abbrev pub opening : ℕ → List Entrant → Plain
opening version entrants = record {
  version = version;
  hierarchy = hierarchy.opening (8 * length entrants);
  processes = map (fresh version) entrants;
  mail = all_running (length entrants);
}

-- the state after these entries
abbrev pub replay : Plain → List Entry → Plain
replay state [] = state
replay state (entry ∷ entries) = replay (plain state entry.process entry.ring entry.request).state entries

-- who may make the request: the initializer one on a path, a process every request
abbrev pub MayAsk : Plain → ℕ → Request → Type 0
MayAsk state p request = (p ≤ length state.processes) × (p ≡ 0 → class_of request ≡ OfPath)

-- an entry in its place: its process may make it, and its reply is what the plain supervisor gives
pub record IsRightEntry (state : Plain) (entry : Entry) : Type 0 where
  pub maker : MayAsk state entry.process entry.request
  pub reply : (plain state entry.process entry.ring entry.request).reply ≡ entry.reply

-- each entry is right in its place
abbrev pub IsRight : Plain → List Entry → Type 0
IsRight state [] = Unit {0}
IsRight state (entry ∷ entries) =
    IsRightEntry state entry × IsRight (plain state entry.process entry.ring entry.request).state entries
