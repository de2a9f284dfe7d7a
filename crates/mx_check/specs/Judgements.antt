-- The judgement on what is to be a session text followed at once by a run text: which one is right, its status and its text.
use Rattle.std.specs.Prelude.{◌≡◌, ℕ, ◌<◌, ◌≤◌, List, ◌++◌, length, Option, codes}
use Rattle.std.specs.Fmt.{decimal}
use Rattle.mx_both.specs.BothTexts.{IsBothText, IsSomeBoth}
use Rattle.mx_io.specs.Bytes.{TakesAll, TakesTooMany}
use Rattle.mx_legal.specs.Breach.{IsBreach}
use Rattle.mx_reader.specs.FirstBadLine.{IsFirstBad}
use Rattle.mx_script.specs.Sessions.{Outline}
use Rattle.mx_state.specs.declared.journal.Entry as journaled
use Rattle.mx_transcript.specs.Runs.{IsRunOf}
use Rattle.mx_transcript.specs.Transcripts.{Step}
use Rattle.mx_check.specs.declared.judgements.Judgement.{Judgement}
use Rattle.mx_check.specs.declared.judgements.Judgement.TheVariants.{Legal, Breach, BadLine, TooLong}

-- the greatest size of both texts together, in bytes
abbrev pub most_bytes : ℕ
most_bytes = 33554432

-- the bytes are the texts of a session and of a run, and this is a legal run of the session
pub record IsLegalText (spelled : List ℕ) : Type 0 where
  pub session : Outline
  pub journal : List journaled.Entry
  pub transcripts : List (List Step)
  pub text : IsBothText spelled session journal transcripts
  pub run : IsRunOf session journal transcripts

-- the bytes are the texts of a session and of a run, and this is its breach
pub record IsBreachText (spelled : List ℕ) (process line : ℕ) : Type 0 where
  pub session : Outline
  pub journal : List journaled.Entry
  pub transcripts : List (List Step)
  pub text : IsBothText spelled session journal transcripts
  pub breach : IsBreach session journal transcripts process line

-- the judgement is right for these bytes
abbrev pub IsJudged : List ℕ → Judgement → Type 0
IsJudged spelled Legal = IsLegalText spelled
IsJudged spelled (Breach breach) = IsBreachText spelled breach.process breach.line
IsJudged spelled (BadLine number) = IsFirstBad IsSomeBoth spelled number
IsJudged spelled TooLong = ⊥

-- it is right for a source that was read to its end, within the limit
pub record IsJudgedWhole (source source' : Option (List ℕ)) (judgement : Judgement) : Type 0 where
  pub spelled : List ℕ
  pub read : TakesAll source source' spelled
  pub within : length spelled ≤ most_bytes
  pub judged : IsJudged spelled judgement

-- it is right for a source, by what it held and what it holds afterwards
abbrev pub IsJudgement : Option (List ℕ) → Option (List ℕ) → Judgement → Type 0
IsJudgement source source' TooLong = TakesTooMany most_bytes source source'
IsJudgement source source' judgement = IsJudgedWhole source source' judgement

-- what is written
abbrev pub breach_text : ℕ → ℕ → List ℕ
breach_text process line = codes "breach " ++ decimal process ++ codes " " ++ decimal line ++ codes "\n"

abbrev pub bad_line_text : ℕ → List ℕ
bad_line_text number = codes "bad line " ++ decimal number ++ codes "\n"

abbrev pub judgement_text : Judgement → List ℕ
judgement_text Legal = codes "legal\n"
judgement_text (Breach breach) = breach_text breach.process breach.line
judgement_text (BadLine number) = bad_line_text number
judgement_text TooLong = codes "too long\n"

-- the status
abbrev pub judgement_status : Judgement → ℕ
judgement_status Legal = 0
judgement_status (Breach breach) = 7
judgement_status (BadLine number) = 5
judgement_status TooLong = 6

-- The status that these bytes ask for: whether they are both texts, and whether the run is a legal one.
pub record IsDueStatus (spelled : List ℕ) (status : ℕ) : Type 0 where
  pub legal : length spelled ≤ most_bytes → IsLegalText spelled → status ≡ 0
  pub not_legal : length spelled ≤ most_bytes → IsSomeBoth spelled → (IsLegalText spelled → ⊥) → status ≡ 7
  pub breach : (process line : ℕ) → length spelled ≤ most_bytes → IsBreachText spelled process line → status ≡ 7
  pub no_texts : length spelled ≤ most_bytes → (IsSomeBoth spelled → ⊥) → status ≡ 5
  pub too_long : most_bytes < length spelled → status ≡ 6
