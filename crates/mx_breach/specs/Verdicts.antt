-- What is told of a run: that it is legal, or its breach, and behind that any words.
use Rattle.std.specs.Prelude.{◌≡◌, ◌⊎◌, ◌++◌, ℕ, List, Option, codes}
use Rattle.std.specs.Fmt.{decimal}
use Rattle.mx_io.specs.Bytes.{Appends, AppendsPart}
use Rattle.mx_legal.specs.Breach.{IsBreach}
use Rattle.mx_script.specs.Sessions.{Outline}
use Rattle.mx_state.specs.declared.journal.Entry as journaled
use Rattle.mx_transcript.specs.Legal.{IsLegal}
use Rattle.mx_transcript.specs.Transcripts.{Step}

abbrev pub breach_line : ℕ → ℕ → List ℕ
breach_line process line = codes "breach " ++ decimal process ++ codes " " ++ decimal line ++ codes "\n"

-- the text begins with the breach of the run
pub record IsBreachText (session : Outline) (journal : List journaled.Entry) (transcripts : List (List Step)) (text : List ℕ)
    : Type 0 where
  pub process : ℕ
  pub line : ℕ
  pub breach : IsBreach session journal transcripts process line
  pub words : List ℕ
  pub text_is : text ≡ breach_line process line ++ words

-- a text that tells of a run
abbrev pub IsVerdict : Outline → List journaled.Entry → List (List Step) → List ℕ → Type 0
IsVerdict session journal transcripts text =
    (IsLegal session journal transcripts × (text ≡ codes "legal\n")) ⊎ IsBreachText session journal transcripts text

-- the sink gained such a text
pub record GainsVerdict (before after : Option (List ℕ)) (session : Outline) (journal : List journaled.Entry)
    (transcripts : List (List Step)) : Type 0 where
  pub text : List ℕ
  pub verdict : IsVerdict session journal transcripts text
  pub gained : Appends before after text

-- the sink gained a front of such a text, and not all of it
pub record GainsVerdictFront (before after : Option (List ℕ)) (session : Outline) (journal : List journaled.Entry)
    (transcripts : List (List Step)) : Type 0 where
  pub text : List ℕ
  pub verdict : IsVerdict session journal transcripts text
  pub part : AppendsPart before after text
