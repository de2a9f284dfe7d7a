-- What a supervisor has entered for a session: one history of the plain supervisor, which begins with the setup.
use Rattle.std.specs.Prelude.{◌≡◌, ℕ, ◌≤◌, List, map, take, length, Some, slice_get}
use Rattle.mx_transcript.specs.Legal.{setup_entries, call_of, setup_call}
use Rattle.mx_script.specs.Sessions.{Outline, IsSession, limit_of}
use Rattle.mx_transcript.specs.Opened.{opening_of}
use Rattle.mx_state.specs.History.{replay, IsRight}
use Rattle.mx_state.specs.Plain.{Plain}
use Rattle.mx_state.specs.declared.journal.Entry as journaled

-- the session whose calls it answers, and all calls so far
pub record Supervised : Type 0 where
  pub session : Outline
  pub journal : List journaled.Entry

abbrev pub supervised : Outline → List journaled.Entry → Supervised
supervised session journal = record { session = session; journal = journal }

-- the state after all calls so far
abbrev pub state_of : Supervised → Plain
state_of s = replay (opening_of s.session) s.journal

-- the calls are one history of the plain supervisor, within the limit: first those of the setup, as far as the limit
-- allows, and then those of the processes
pub record IsHistory (s : Supervised) : Type 0 where
  pub within_limit : length s.journal ≤ limit_of s.session
  pub right : IsRight (opening_of s.session) s.journal
  pub begun : setup_entries s.session ≤ length s.journal
  pub setup_first : take (setup_entries s.session) (map call_of s.journal)
      ≡ take (setup_entries s.session) (map setup_call s.session.setup)
  pub makers : (place : ℕ) (entry : journaled.Entry) → setup_entries s.session ≤ place
      → slice_get s.journal place ≡ Some entry → (1 ≤ entry.process) × (entry.process ≤ length s.session.principals)

-- a supervisor keeps its state as the replay of its journal
pub record IsKept (x : Outline) (now : Plain) (journal : List journaled.Entry) : Type 0 where
  pub session : IsSession x
  pub state : now ≡ replay (opening_of x) journal
  pub processes : length now.processes ≡ length x.principals
  pub history : IsHistory (supervised x journal)
