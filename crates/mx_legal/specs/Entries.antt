-- Which entries of a journal are good: what is said of each where it stands, whatever the transcripts say.
use Rattle.std.specs.Prelude.{◌≡◌, ◌↔◌, ℕ, ◌<◌, ◌≤◌, true, List, Option, Some, None, length, slice_get, take}
use Rattle.mx_request.specs.ReplyTexts.{fits_reply}
use Rattle.mx_script.specs.Sessions.{Outline, limit_of}
use Rattle.mx_state.specs.History.{IsRight, IsRightEntry, replay}
use Rattle.mx_state.specs.Plain.{Plain}
use Rattle.mx_state.specs.Requests.{plain}
use Rattle.mx_state.specs.declared.journal.Entry as journaled
use Rattle.mx_transcript.specs.Legal.{setup_entries}
use Rattle.mx_transcript.specs.Opened.{opening_of}

-- the plain supervisor's state before the entry at this place, counted from 0
abbrev pub state_at : Outline → List journaled.Entry → ℕ → Plain
state_at session journal place = replay (opening_of session) (take place journal)

-- an entry may stand at this place
pub record IsInPlace (session : Outline) (place : ℕ) (entry : journaled.Entry) : Type 0 where
  -- it is within the limit
  pub within_limit : place < limit_of session
  -- the entries of the setup, as far as the limit allows them, are the initializer's
  pub setup_first : place < setup_entries session → entry.process ≡ 0
  -- the initializer asks in ring 0
  pub ring : entry.process ≡ 0 → entry.ring ≡ 0

-- an entry is good at this place, where the plain supervisor has come to this state
pub record IsGoodEntry (session : Outline) (state : Plain) (place : ℕ) (entry : journaled.Entry) : Type 0 where
  pub in_place : IsInPlace session place entry
  -- its process may make it, and its reply is the plain supervisor's
  pub right : IsRightEntry state entry

-- the entry at this place of the journal is good
abbrev pub IsGoodAt : Outline → List journaled.Entry → ℕ → journaled.Entry → Type 0
IsGoodAt session journal place entry = IsGoodEntry session (state_at session journal place) place entry

-- the entries below a place are good
pub record AreGoodTo (session : Outline) (journal : List journaled.Entry) (end : ℕ) : Type 0 where
  pub each : (place : ℕ) (entry : journaled.Entry) → place < end → slice_get journal place ≡ Some entry
      → IsGoodAt session journal place entry

-- at this place is the first entry that is not good
pub record IsFirstBad (session : Outline) (journal : List journaled.Entry) (place : ℕ) : Type 0 where
  pub entry : journaled.Entry
  pub at : slice_get journal place ≡ Some entry
  pub before : AreGoodTo session journal place
  pub bad : IsGoodAt session journal place entry → ⊥

-- the first entry that is not good, or none
abbrev pub IsFirstBadEntry : Outline → List journaled.Entry → Option ℕ → Type 0
IsFirstBadEntry session journal None = AreGoodTo session journal (length journal)
IsFirstBadEntry session journal (Some place) = IsFirstBad session journal place

-- all entries of a journal are good
pub record HasGoodEntries (session : Outline) (journal : List journaled.Entry) : Type 0 where
  -- the journal is within its limit
  pub within_limit : length journal ≤ limit_of session
  -- it is one history of the plain supervisor
  pub right : IsRight (opening_of session) journal
  -- each entry is in its place
  pub in_place : (place : ℕ) (entry : journaled.Entry) → slice_get journal place ≡ Some entry → IsInPlace session place entry

-- said at each place, and said of the whole journal
abbrev pub GoodEntriesLaw : Type 0
GoodEntriesLaw = (session : Outline) (journal : List journaled.Entry)
    → AreGoodTo session journal (length journal) ↔ HasGoodEntries session journal

-- Helpers: what the plain supervisor answers to an entry in this state can be spelled; and it has answered it.
pub record HasText (state : Plain) (entry : journaled.Entry) : Type 0 where
  pub fits : fits_reply (plain state entry.process entry.ring entry.request).reply ≡ true

pub record HasAnswered (state : Plain) (entry : journaled.Entry) (after : Plain) : Type 0 where
  pub is : after ≡ (plain state entry.process entry.ring entry.request).state

-- the entries below a place are of processes of the session
abbrev pub AreOfProcessesTo : Outline → List journaled.Entry → ℕ → Type 0
AreOfProcessesTo session journal end = (place : ℕ) (entry : journaled.Entry) → place < end → slice_get journal place ≡ Some entry
    → entry.process ≤ length session.principals

abbrev pub AreOfProcesses : Outline → List journaled.Entry → Option ℕ → Type 0
AreOfProcesses session journal None = AreOfProcessesTo session journal (length journal)
AreOfProcesses session journal (Some place) = AreOfProcessesTo session journal place
