-- What one run of a session comes to: what it prints, or another status.
use Rattle.std.specs.Prelude.{◌≡◌, ◌≢◌, ◌⊎◌, ℕ, List, [], ◌∷◌, Option, Some, codes}
use Rattle.mx_transcript.specs.Runs as legal
use Rattle.mx_transcript.specs.Transcripts.{Step}
use Rattle.mx_check.specs.Judgements.{IsLegalText}
use Rattle.mx_proc.specs.Auditors.{WereTold}
use Rattle.mx_run.specs.Done.{IsDone, IsDrilled, IsDoneBy}
use Rattle.mx_run.specs.Statuses.{IsStopped, IsDueStatus}
use Rattle.mx_script.specs.Sessions.{Outline}
use Rattle.mx_spelling.specs.Spelling.{IsSpellable}
use Rattle.mx_state.specs.declared.journal.Entry.{Entry}
use Rattle.mx_text.specs.RunText.{run_text}
use Rattle.session_files.specs.declared.runs.Ended.{Ended}
use Rattle.session_files.specs.declared.runs.Ended.TheVariants.{Ran, Otherwise}

-- The first bytes are the text of a session, and the others the run text of a legal run of it, whose falls are gated. It had no auditors.
abbrev pub IsRunOf : List ℕ → List ℕ → Type 0
IsRunOf session printed = (left : Option (List ℕ)) × IsDone (Some session) left (Some []) (Some printed) [] []

-- The bytes are the run text of a legal run of a session, which it can say. It had no auditors, so each part is whole.
pub record IsPrintedOf (session : Outline) (printed : List ℕ) : Type 0 where
  pub journal : List Entry
  pub transcripts : List (List Step)
  pub run : legal.IsRunOf session journal transcripts
  pub spellable : IsSpellable journal transcripts
  pub told : WereTold session [] transcripts []
  pub text : printed ≡ run_text journal transcripts

-- The status of a command to run these bytes that is not 0: that of one which memory or an end stopped, or else the one that is due.
pub record IsOtherStatus (session : List ℕ) (status : ℕ) : Type 0 where
  pub other : status ≢ 0
  pub due : IsStopped status ⊎ IsDueStatus (codes "run" ∷ []) session status

-- what is told of a run is right
abbrev pub IsEnded : List ℕ → Ended → Type 0
IsEnded session (Ran printed) = IsRunOf session printed.items
IsEnded session (Otherwise status printed) = IsOtherStatus session status

-- The first bytes spell the number of a drill, and the others are the summary of a legal run of it.
abbrev pub IsSummaryOf : List ℕ → List ℕ → Type 0
IsSummaryOf number printed = IsDrilled (codes "drill" ∷ number ∷ []) (Some []) (Some printed) [] []

-- what is told of a drill is right
abbrev pub IsDrillEnded : List ℕ → Ended → Type 0
IsDrillEnded number (Ran printed) = IsSummaryOf number printed.items
IsDrillEnded number (Otherwise status printed) = status ≢ 0

-- what is told of a printed run is right
abbrev pub IsCheckEnded : List ℕ → Ended → Type 0
IsCheckEnded both (Ran printed) = IsLegalText both × (printed.items ≡ codes "legal\n")
IsCheckEnded both (Otherwise status printed) = (status ≢ 0) × (IsStopped status ⊎ IsDueStatus (codes "check" ∷ []) both status)

-- Helper, which only a private contract cites: what is told of any command is right.
abbrev pub IsEndedBy : List (List ℕ) → List ℕ → Ended → Type 0
IsEndedBy words text (Ran printed) = (left : Option (List ℕ)) × IsDoneBy words (Some text) left (Some []) (Some printed.items) [] []
IsEndedBy words text (Otherwise status printed) = (status ≢ 0) × (IsStopped status ⊎ IsDueStatus words text status)
