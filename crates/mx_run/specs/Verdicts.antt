-- The verdict on a command: what comes of its words and of the bytes of its source, what its auditors were told, the text that is
-- written, and the status. A source's bytes are spoken of where they are told.
use Rattle.std.specs.Prelude.{◌≡◌, ℕ, ◌≤◌, List, ◌++◌, length, Option, codes}
use Rattle.std.specs.Fmt.{decimal}
use Rattle.mx_audit.specs.Accounts.{Account}
use Rattle.mx_check.specs.Judgements.{IsJudgement, judgement_status, judgement_text}
use Rattle.mx_io.specs.Bytes.{TakesAll, TakesTooMany}
use Rattle.mx_proc.specs.Auditors.{WereTold}
use Rattle.mx_script.specs.FirstBadLine.{IsFirstBad}
use Rattle.mx_spelling.specs.Spelling.{IsSpellable}
use Rattle.mx_text.specs.RunText.{run_text}
use Rattle.mx_transcript.specs.Runs.{IsRunOf}
use Rattle.mx_drill.specs.Drills.{drill_session}
use Rattle.mx_drill.specs.Summaries.{summary_text}
use Rattle.mx_run.specs.Commands.{IsRun, IsDrill, IsCheck, IsAccepted}
use Rattle.mx_run.specs.Done.{IsRunFrom, most_bytes}
use Rattle.mx_run.specs.declared.verdicts.Verdict.{Verdict}
use Rattle.mx_run.specs.declared.verdicts.Verdict.TheVariants.{Ran, Drilled, Checked, BadWords, BadLine, TooLong}

-- The source was read to its end, and its bytes, within the limit, are no session: this is their first bad line.
pub record IsBadLineOf (source source' : Option (List ℕ)) (number : ℕ) : Type 0 where
  pub spelled : List ℕ
  pub read : TakesAll source source' spelled
  pub within : length spelled ≤ most_bytes
  pub first : IsFirstBad spelled number

-- The verdict is right for the words of a command, what its source held, and what it holds afterwards. Each auditor was told what its
-- process was denied in the run, and was heeded; it was told nothing where none was made.
abbrev pub IsVerdict : List (List ℕ) → Option (List ℕ) → Option (List ℕ) → List Account → List Account → Verdict → Type 0
IsVerdict words source source' accounts accounts' (Ran journal transcripts) =
    IsRun words × (run : IsRunFrom source source' journal transcripts) × WereTold run.session accounts transcripts accounts'
IsVerdict words source source' accounts accounts' (Drilled number journal transcripts) =
    IsDrill words number × IsRunOf (drill_session number) journal transcripts × IsSpellable journal transcripts × (source' ≡ source)
    × WereTold (drill_session number) accounts transcripts accounts'
IsVerdict words source source' accounts accounts' (Checked judgement) =
    IsCheck words × IsJudgement source source' judgement × (accounts' ≡ accounts)
IsVerdict words source source' accounts accounts' BadWords = (IsAccepted words → ⊥) × (source' ≡ source) × (accounts' ≡ accounts)
IsVerdict words source source' accounts accounts' (BadLine number) = IsRun words × IsBadLineOf source source' number × (accounts' ≡ accounts)
IsVerdict words source source' accounts accounts' TooLong = IsRun words × TakesTooMany most_bytes source source' × (accounts' ≡ accounts)

-- what is written
abbrev pub verdict_text : Verdict → List ℕ
verdict_text (Ran journal transcripts) = run_text journal transcripts
verdict_text (Drilled number journal transcripts) = summary_text number journal transcripts
verdict_text (Checked judgement) = judgement_text judgement
verdict_text BadWords = codes "bad words\n"
verdict_text (BadLine number) = codes "bad line " ++ decimal number ++ codes "\n"
verdict_text TooLong = codes "too long\n"

-- the status with which the program ends
abbrev pub verdict_status : Verdict → ℕ
verdict_status (Ran journal transcripts) = 0
verdict_status (Drilled number journal transcripts) = 0
verdict_status (Checked judgement) = judgement_status judgement
verdict_status BadWords = 2
verdict_status (BadLine number) = 5
verdict_status TooLong = 6
