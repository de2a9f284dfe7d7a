-- Wrong transcripts, each one change away from a right one that stands beside it: the rules on the number of transcripts,
-- on the entries that they name and on the full journal refuse them. Two of these rules are no definition of their own;
-- they are named here, and are rules of a legal run.
use Rattle.std.specs.Prelude.{◌≡◌, ℕ, ◌+◌, List, [], ◌∷◌, length}
use Rattle.mx_request.specs.declared.replies.Reply.TheVariants as reply
use Rattle.mx_request.specs.declared.requests.Request.TheVariants.{Resume}
use Rattle.mx_sdw.specs.declared.denials.Denial.TheVariants.{NotReadable}
use Rattle.mx_state.specs.declared.journal.Entry as journaled
use Rattle.mx_script.specs.Sessions.{Outline}
use Rattle.mx_transcript.specs.declared.transcripts.Event2.{Event2}
use Rattle.mx_transcript.specs.declared.transcripts.Event2.TheVariants.{Entry}
use Rattle.mx_transcript.specs.declared.transcripts.Result2.{Result2}
use Rattle.mx_transcript.specs.declared.transcripts.Result2.TheVariants as result
use Rattle.mx_transcript.specs.FullJournal.{AreFullFrom, HasNoneAfterFull}
use Rattle.mx_transcript.specs.Legal.{IsLegal}
use Rattle.mx_transcript.specs.Transcripts.{Step, part, events_of, entries_named, numbers_of}
use Rattle.mx_transcript.specs.WrongJournals.{session}

-- there is one transcript for the initializer and each process
abbrev pub HasParts : Outline → List (List Step) → Type 0
HasParts x transcripts = length transcripts ≡ 1 + length x.principals

-- these events name the entries of process p, in order, each once
abbrev pub NamesOwn : List journaled.Entry → ℕ → List Event2 → Type 0
NamesOwn journal p events = entries_named events ≡ numbers_of p journal

pub record WrongParts : Type 0 where
  -- right: three, in a session of two processes
  pub right_parts : HasParts (session 4) ([] ∷ [] ∷ [] ∷ [])
  -- none of the second process, the initializer's alone, none at all; one of a third process
  pub too_few : HasParts (session 4) ([] ∷ [] ∷ []) → ⊥
  pub initializers : HasParts (session 4) ([] ∷ []) → ⊥
  pub none : HasParts (session 4) [] → ⊥
  pub too_many : HasParts (session 4) ([] ∷ [] ∷ [] ∷ [] ∷ []) → ⊥

-- entries 1 and 3 are process 1's, entry 2 is another's
abbrev pub by_process : ℕ → journaled.Entry
by_process p = record { process = p; ring = 4; request = Resume; reply = reply.Nobody }

abbrev pub journal : List journaled.Entry
journal = by_process 1 ∷ by_process 2 ∷ by_process 1 ∷ []

abbrev pub NeverNames : List Event2 → Type 0
NeverNames events = NamesOwn journal 1 events → ⊥

pub record WrongNames : Type 0 where
  pub right_names : NamesOwn journal 1 (Entry 1 ∷ Entry 3 ∷ [])
  -- the first or the last entry not named
  pub first_unnamed : NeverNames (Entry 3 ∷ [])
  pub last_unnamed : NeverNames (Entry 1 ∷ [])
  -- one named twice
  pub twice : NeverNames (Entry 1 ∷ Entry 3 ∷ Entry 3 ∷ [])
  -- in the other order
  pub other_order : NeverNames (Entry 3 ∷ Entry 1 ∷ [])
  -- another process's, in place of an own one or besides
  pub others : NeverNames (Entry 1 ∷ Entry 2 ∷ [])
  pub others_too : NeverNames (Entry 1 ∷ Entry 2 ∷ Entry 3 ∷ [])
  -- one that is not there
  pub beyond : NeverNames (Entry 1 ∷ Entry 3 ∷ Entry 4 ∷ [])

-- a line with these events, which ends so
abbrev pub line : List Event2 → Result2 → Step
line events ends = (9, events, ends)

abbrev pub entered : ℕ → Step
entered number = line (Entry number ∷ []) result.Done

abbrev pub full : Step
full = line [] result.HistoryFull

-- a load: it needs no entry
abbrev pub loaded : Step
loaded = line [] (result.A 0)

pub record WrongEnds : Type 0 where
  -- right: there are entries before the journal is found full, one in the line that finds it so, and none after it
  pub right_end : HasNoneAfterFull
      (entered 1 ∷ line (Entry 2 ∷ []) result.HistoryFull ∷ loaded ∷ full ∷ [])
  -- an entry in the next line, in a later one, between two that find it full, and in one that finds it full again
  pub next : HasNoneAfterFull (full ∷ entered 1 ∷ []) → ⊥
  pub later : HasNoneAfterFull (full ∷ loaded ∷ entered 1 ∷ []) → ⊥
  pub between : HasNoneAfterFull (entered 1 ∷ full ∷ entered 2 ∷ full ∷ []) → ⊥
  pub full_again : HasNoneAfterFull (full ∷ line (Entry 1 ∷ []) result.HistoryFull ∷ []) → ⊥

pub record WrongFullSetups : Type 0 where
  -- right: a setup of three lines, where one entry is left to it
  pub right_setup : AreFullFrom 1 (entered 1 ∷ full ∷ full ∷ [])
  -- a line past the limit that is done, the next or the last; one that is refused, and one that is denied
  pub next_done : AreFullFrom 1 (entered 1 ∷ line [] result.Done ∷ full ∷ []) → ⊥
  pub last_done : AreFullFrom 1 (entered 1 ∷ full ∷ entered 2 ∷ []) → ⊥
  pub refused : AreFullFrom 1 (entered 1 ∷ line [] result.Refused ∷ full ∷ []) → ⊥
  pub denied : AreFullFrom 1 (entered 1 ∷ line [] (result.Denied NotReadable) ∷ full ∷ []) → ⊥

pub record WrongTranscripts : Type 0 where
  -- a legal run keeps the rules that are named here
  pub number : (x : Outline) (journal : List journaled.Entry) (transcripts : List (List Step))
      → IsLegal x journal transcripts → HasParts x transcripts
  pub names : (x : Outline) (journal : List journaled.Entry) (transcripts : List (List Step))
      → IsLegal x journal transcripts → (p : ℕ) → NamesOwn journal p (events_of (part transcripts p))
  pub wrong_parts : WrongParts
  pub wrong_names : WrongNames
  pub wrong_ends : WrongEnds
  pub wrong_setups : WrongFullSetups
