-- What a supervisor does: it opens with the setup, and enters one call after another.
use Rattle.std.specs.Prelude.{◌≡◌, ℕ, ◌+◌, ◌<◌, List, [], ◌∷◌, ◌++◌, All, length}
use Rattle.mx_transcript.specs.Legal.{setup_entries}
use Rattle.mx_transcript.specs.Transcripts.{Step}
use Rattle.mx_request.specs.declared.replies.Reply.{Reply}
use Rattle.mx_request.specs.declared.requests.Request.{Request}
use Rattle.mx_request.specs.Versions.{last_number}
use Rattle.mx_script.specs.Sessions.{Outline, limit_of}
use Rattle.mx_state.specs.Changes.{AreChanges, IsBounded}
use Rattle.mx_state.specs.Given.{AreFreed, AreGiven}
use Rattle.mx_state.specs.History.{IsRightEntry}
use Rattle.mx_state.specs.Told.{IsLinkedWithin}
use Rattle.mx_sup.specs.Supervised.{Supervised, supervised, state_of, IsHistory}
use Rattle.mx_sup.specs.declared.supervisors.Entered.{Entered}
use Rattle.mx_ties.specs.Ran.{IsSetUp}

-- it has entered the setup of its session and nothing else, and this is the initializer's part
pub record IsOpened (x : Outline) (s : Supervised) (steps : List Step) : Type 0 where
  pub session : s.session ≡ x
  pub only : length s.journal ≡ setup_entries x
  pub history : IsHistory s
  pub part : IsSetUp x s.journal steps

-- below the limit, process p's request was entered last, with the plain supervisor's reply; a pointer to where a link leads
-- has a word
pub record HasEntered (old : Supervised) (p ring : ℕ) (request : Request) (entered : ℕ) (new : Supervised) : Type 0 where
  pub below : length old.journal < limit_of old.session
  pub number : entered ≡ length old.journal + 1
  pub reply : Reply
  pub right : IsRightEntry (state_of old) (record { process = p; ring = ring; request = request; reply = reply })
  pub linked : IsLinkedWithin reply
  pub entry : new ≡ supervised old.session
      (old.journal ++ record { process = p; ring = ring; request = request; reply = reply } ∷ [])

-- exactly the descriptors that an entry changed are told, and exactly the pages that it gave out and freed
pub record HasCome (old new : Supervised) (came : Entered) : Type 0 where
  pub changes : AreChanges (state_of old) (state_of new) came.changes
  pub bounded : All (IsBounded (last_number (state_of old).version)) came.changes
  pub given : AreGiven (state_of old) (state_of new) came.given
  pub freed : AreFreed (state_of old) (state_of new) came.freed
