-- Helpers: the setup's entries, and the initializer's part of the run, which they determine.
use Rattle.std.specs.Prelude.{◌≡◌, ℕ, suc, ◌+◌, Option, Some, None, List, [], ◌∷◌, ◌++◌, map, take, length}
use Rattle.mx_transcript.specs.Asking.{result_of}
use Rattle.mx_transcript.specs.Legal.{call_of, setup_call}
use Rattle.mx_transcript.specs.Scripts.{first_line}
use Rattle.mx_transcript.specs.Transcripts.{Step}
use Rattle.mx_transcript.specs.declared.transcripts.Event2.{Event2}
use Rattle.mx_transcript.specs.declared.transcripts.Event2.TheVariants.{Entry}
use Rattle.mx_transcript.specs.declared.transcripts.Result2.TheVariants.{HistoryFull}
use Rattle.mx_request.specs.declared.replies.Reply.{Reply}
use Rattle.mx_request.specs.declared.requests.Request.{Request}
use Rattle.mx_script.specs.Sessions.{Outline}
use Rattle.mx_transcript.specs.Opened.{opening_of}
use Rattle.mx_state.specs.History.{replay, IsRight, IsRightEntry}
use Rattle.mx_state.specs.Plain.{Plain}
use Rattle.mx_state.specs.Requests.{plain}
use Rattle.mx_state.specs.declared.journal.Entry as journaled

-- the lines of these requests, the first of this number, where the entries for them begin with this one; where no entry
-- is left, the journal was full
abbrev pub setup_steps : ℕ → ℕ → List journaled.Entry → List Request → List Step
setup_steps number first entries [] = []
setup_steps number first [] (request ∷ requests) =
    (number, [], HistoryFull) ∷ setup_steps (suc number) first [] requests
setup_steps number first (entry ∷ entries) (request ∷ requests) =
    (number, Entry first ∷ [], result_of entry.reply) ∷ setup_steps (suc number) (suc first) entries requests

-- the initializer's part, where these are the setup's entries
abbrev pub setup_part : Outline → List journaled.Entry → List Step
setup_part x journal = setup_steps (first_line x 0) 1 journal x.setup

-- the line at this place, counted from 0, of a setup whose first line has this number, after these events
abbrev pub setup_step : ℕ → ℕ → List Event2 → Option journaled.Entry → Step
setup_step first place events None = (first + place, events, HistoryFull)
setup_step first place events (Some entry) =
    (first + place, events ++ Entry (place + 1) ∷ [], result_of entry.reply)

-- the first so many requests of the setup were entered
pub record HasSetUp (x : Outline) (count : ℕ) (now : Plain) (journal : List journaled.Entry) : Type 0 where
  pub many : length journal ≡ count
  pub right : IsRight (opening_of x) journal
  pub state : now ≡ replay (opening_of x) journal
  pub processes : length now.processes ≡ length x.principals
  pub calls : map call_of journal ≡ take count (map setup_call x.setup)

-- the initializer's entry of this request, with this reply
abbrev pub setup_entry : Request → Reply → journaled.Entry
setup_entry request reply = record { process = 0; ring = 0; request = request; reply = reply }

-- one request of the initializer was entered
pub record IsEntered (request : Request) (before : Plain) (journal : List journaled.Entry) (after : Plain)
    (journal' : List journaled.Entry) : Type 0 where
  pub reply : Reply
  pub right : IsRightEntry before (setup_entry request reply)
  pub state : after ≡ (plain before 0 0 request).state
  pub processes : length after.processes ≡ length before.processes
  pub entry : journal' ≡ journal ++ setup_entry request reply ∷ []
