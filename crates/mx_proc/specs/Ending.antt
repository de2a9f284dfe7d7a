-- What a run keeps for its end.
use Rattle.std.specs.Prelude.{◌≡◌, ℕ, ◌+◌, ◌≤◌, List, [], drop}
use Rattle.mx_audit.specs.Accounts.{Account}
use Rattle.mx_desc.specs.Passes.{PassValue}
use Rattle.mx_script.specs.Sessions.{Outline}
use Rattle.mx_state.specs.declared.journal.Entry as journaled
use Rattle.mx_ties.specs.Ran.{IsSetUp}
use Rattle.mx_transcript.specs.Transcripts.{Step}

-- the initializer's part, and the rest of the ledger, in which no entry is counted
pub record IsBegun (x : Outline) (setup : List journaled.Entry) (part : List Step) (parts amount : ℕ) : Type 0 where
  pub set_up : IsSetUp x setup part
  pub partless : parts ≡ 0
  pub uncounted : amount ≡ 0

-- the lists are empty, and have room for what the processes and the initializer leave
pub record HaveRoomToEnd (processes : ℕ) (transcripts : List (List Step)) (first : ℕ)
    (passes : List (PassValue journaled.Entry)) (second : ℕ) : Type 0 where
  pub unwritten : transcripts ≡ []
  pub steps : 1 + processes ≤ first
  pub unreturned : passes ≡ []
  pub views : processes ≤ second

-- these are the auditors beyond the processes
abbrev pub AreBeyond : ℕ → List Account → List Account → Type 0
AreBeyond processes accounts beyond = beyond ≡ drop processes accounts
