-- Status 0, the headline. Under `run` the source held the text of a session, and the sink gained the run text of a legal
-- run of it. Under `drill N` the sink gained the summary of a legal run of the drill of that number. Each auditor was told
-- what the run's transcripts say of its process, and was heeded: behind a denial that it answered with `Logout` they have the
-- last line of the script, and else all lines. Under `check` the source held a session and a legal run of it, and the sink
-- gained `legal`; no auditor was told. A source's bytes and a sink's are spoken of where they are told.
use Rattle.std.specs.Prelude.{◌≡◌, ℕ, ◌≤◌, ◌⊎◌, List, length, Option, codes}
use Rattle.mx_io.specs.Bytes.{TakesAll, Appends}
use Rattle.mx_audit.specs.Accounts.{Account}
use Rattle.mx_check.specs.Judgements as judged
use Rattle.mx_script.specs.SessionTexts.{IsText}
use Rattle.mx_script.specs.Sessions.{Outline}
use Rattle.mx_state.specs.declared.journal.Entry.{Entry}
use Rattle.mx_transcript.specs.Runs.{IsRunOf}
use Rattle.mx_transcript.specs.Transcripts.{Step}
use Rattle.mx_proc.specs.Auditors.{WereTold}
use Rattle.mx_spelling.specs.Spelling.{IsSpellable}
use Rattle.mx_drill.specs.Drills.{drill_session}
use Rattle.mx_drill.specs.Summaries.{summary_text}
use Rattle.mx_text.specs.RunText.{run_text}
use Rattle.mx_run.specs.Commands.{IsRun, IsDrill, IsCheck}

-- the greatest size of a session text, in bytes
abbrev pub most_bytes : ℕ
most_bytes = 4194304

-- The source was read to its end, and its bytes are the text of a session, within the limit, of which this is a run that a run text
-- can say.
pub record IsRunFrom (source source' : Option (List ℕ)) (journal : List Entry)
    (transcripts : List (List Step)) : Type 0 where
  pub spelled : List ℕ
  pub session : Outline
  pub read : TakesAll source source' spelled
  pub within : length spelled ≤ most_bytes
  pub text : IsText spelled session
  pub run : IsRunOf session journal transcripts
  pub spellable : IsSpellable journal transcripts

-- under `run`
pub record IsDone (source source' sink sink' : Option (List ℕ)) (accounts accounts' : List Account) : Type 0 where
  pub journal : List Entry
  pub transcripts : List (List Step)
  pub run : IsRunFrom source source' journal transcripts
  pub told : WereTold run.session accounts transcripts accounts'
  pub printed : Appends sink sink' (run_text journal transcripts)

-- under `drill N`
pub record IsDrilled (words : List (List ℕ)) (sink sink' : Option (List ℕ)) (accounts accounts' : List Account) : Type 0 where
  pub number : ℕ
  pub words_are : IsDrill words number
  pub journal : List Entry
  pub transcripts : List (List Step)
  pub run : IsRunOf (drill_session number) journal transcripts
  pub spellable : IsSpellable journal transcripts
  pub told : WereTold (drill_session number) accounts transcripts accounts'
  pub printed : Appends sink sink' (summary_text number journal transcripts)

-- under `check`
pub record IsChecked (words : List (List ℕ)) (source source' sink sink' : Option (List ℕ)) (accounts accounts' : List Account) : Type 0 where
  pub words_are : IsCheck words
  pub spelled : List ℕ
  pub read : TakesAll source source' spelled
  pub within : length spelled ≤ judged.most_bytes
  pub legal : judged.IsLegalText spelled
  pub untold : accounts' ≡ accounts
  pub printed : Appends sink sink' (codes "legal\n")

-- what the words ask for was done
abbrev pub IsDoneBy : List (List ℕ) → Option (List ℕ) → Option (List ℕ) → Option (List ℕ) → Option (List ℕ) → List Account → List Account → Type 0
IsDoneBy words source source' sink sink' accounts accounts' =
    (IsRun words × IsDone source source' sink sink' accounts accounts')
    ⊎ (IsDrilled words sink sink' accounts accounts' ⊎ IsChecked words source source' sink sink' accounts accounts')
