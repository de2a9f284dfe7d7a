-- Wrong journals, each one change away from a right one that stands beside it: the rules of a legal run refuse them. Two
-- of these rules are no definition of their own; they are named here, and are rules of a legal run.
use Rattle.std.specs.Prelude.{◌≡◌, ℕ, ◌≤◌, List, [], ◌∷◌, Some, length, map, take, codes}
use Rattle.mx_aim.specs.Classes.{lowest}
use Rattle.mx_request.specs.declared.entrants.Entrant.{Entrant}
use Rattle.mx_request.specs.declared.replies.Reply.{Reply}
use Rattle.mx_request.specs.declared.replies.Reply.TheVariants as reply
use Rattle.mx_request.specs.declared.requests.Request.{Request}
use Rattle.mx_request.specs.declared.requests.Request.TheVariants.{Delete, Wakeup, Block, Resume, Logout}
use Rattle.mx_state.specs.History.{IsRight}
use Rattle.mx_state.specs.declared.journal.Entry as journaled
use Rattle.mx_script.specs.Sessions.{Outline, outline, entrant, limit_of}
use Rattle.mx_transcript.specs.Legal.{IsLegal, call_of, setup_call, setup_entries}
use Rattle.mx_transcript.specs.Opened.{opening_of}
use Rattle.mx_transcript.specs.Transcripts.{Step}

-- the journal is within its limit
abbrev pub IsWithinLimit : Outline → List journaled.Entry → Type 0
IsWithinLimit x journal = length journal ≤ limit_of x

-- it begins with the setup
abbrev pub HasSetupFirst : Outline → List journaled.Entry → Type 0
HasSetupFirst x journal =
    take (setup_entries x) (map call_of journal) ≡ take (setup_entries x) (map setup_call x.setup)

-- a session of two processes and two lines of setup, with this limit
abbrev pub somebody : Entrant
somebody = entrant (record { person = codes "A"; project = codes "B"; tag = codes "c" }) lowest

abbrev pub session : ℕ → Outline
session limit =
    outline 1 (Some limit) (Delete (codes ">a") ∷ Delete (codes ">b") ∷ []) (somebody ∷ somebody ∷ []) []

-- a call of a process in ring 4, and a line of the setup
abbrev pub call : ℕ → Request → Reply → journaled.Entry
call p request given = record { process = p; ring = 4; request = request; reply = given }

abbrev pub first : journaled.Entry
first = record { process = 0; ring = 0; request = Delete (codes ">a"); reply = reply.Done }

abbrev pub second : journaled.Entry
second = record first { request = Delete (codes ">b") }

abbrev pub logout : ℕ → journaled.Entry
logout p = call p Logout reply.Done

pub record WrongLimits : Type 0 where
  -- right: as many entries as the limit
  pub right_limit : IsWithinLimit (session 4) (first ∷ second ∷ logout 1 ∷ logout 2 ∷ [])
  -- one entry too many, two too many, and one too many in the setup
  pub one_more : IsWithinLimit (session 3) (first ∷ second ∷ logout 1 ∷ logout 2 ∷ []) → ⊥
  pub two_more : IsWithinLimit (session 2) (first ∷ second ∷ logout 1 ∷ logout 2 ∷ []) → ⊥
  pub setup_too_long : IsWithinLimit (session 1) (first ∷ second ∷ []) → ⊥

pub record WrongSetups : Type 0 where
  -- right: both lines, or as many as the limit allows
  pub right_setup : HasSetupFirst (session 4) (first ∷ second ∷ logout 1 ∷ [])
  pub right_limited : HasSetupFirst (session 1) (first ∷ [])
  -- a line left out; the lines in the other order; another line
  pub left_out : HasSetupFirst (session 4) (second ∷ logout 1 ∷ []) → ⊥
  pub other_order : HasSetupFirst (session 4) (second ∷ first ∷ logout 1 ∷ []) → ⊥
  pub another_line : HasSetupFirst (session 4) (first ∷ record second { request = Delete (codes ">c") } ∷ []) → ⊥
  -- made by a process, or in another ring
  pub by_process : HasSetupFirst (session 4) (first ∷ record second { process = 1 } ∷ []) → ⊥
  pub other_ring : HasSetupFirst (session 4) (first ∷ record second { ring = 1 } ∷ []) → ⊥
  -- a call of a process in between
  pub in_between : HasSetupFirst (session 4) (first ∷ logout 1 ∷ second ∷ []) → ⊥

-- a journal of the same two processes, without a setup
abbrev pub Answers : List journaled.Entry → Type 0
Answers journal = IsRight (opening_of (session 4)) journal

-- process 1 waits; process 2 sends it a word; it takes the word
abbrev pub waits : journaled.Entry
waits = call 1 Block reply.Waiting

abbrev pub sends : journaled.Entry
sends = call 2 (Wakeup 1 7) reply.Sent

pub record WrongReplies : Type 0 where
  pub right_replies : Answers (waits ∷ sends ∷ call 1 Resume (reply.Message 2 7) ∷ logout 1 ∷ [])
  -- process 1 is told that there is nobody, where process 2 runs
  pub nobody : Answers (call 1 Block reply.Nobody ∷ []) → ⊥
  -- it is given another word than was sent, or from another process
  pub other_word : Answers (waits ∷ sends ∷ call 1 Resume (reply.Message 2 8) ∷ []) → ⊥
  pub other_sender : Answers (waits ∷ sends ∷ call 1 Resume (reply.Message 1 7) ∷ []) → ⊥
  -- it is given a word before one was sent
  pub too_early : Answers (call 1 Block (reply.Message 2 7) ∷ sends ∷ []) → ⊥
  -- it waits on, though a word was sent
  pub waits_on : Answers (waits ∷ sends ∷ call 1 Resume reply.Waiting ∷ []) → ⊥
  -- a call of a process that is not there, and one of the initializer that only a process may make
  pub no_process : Answers (logout 3 ∷ []) → ⊥
  pub initializers : Answers (logout 0 ∷ []) → ⊥

pub record WrongJournals : Type 0 where
  -- a legal run keeps the rules that are named here
  pub limit : (x : Outline) (journal : List journaled.Entry) (transcripts : List (List Step))
      → IsLegal x journal transcripts → IsWithinLimit x journal
  pub setup : (x : Outline) (journal : List journaled.Entry) (transcripts : List (List Step))
      → IsLegal x journal transcripts → HasSetupFirst x journal
  pub limits : WrongLimits
  pub setups : WrongSetups
  pub replies : WrongReplies
