-- What is told of a source that is to hold a session text followed at once by a run text. Its bytes and those of a sink are
-- spoken of where they are told.
use Rattle.std.specs.Prelude.{◌≡◌, ◌⊎◌, ◌++◌, ℕ, ◌<◌, ◌≤◌, List, length, Option, codes}
use Rattle.std.specs.Fmt.{decimal}
use Rattle.mx_both.specs.BothTexts.{IsBothText, IsSomeBoth}
use Rattle.mx_breach.specs.Verdicts.{GainsVerdict, GainsVerdictFront}
use Rattle.mx_io.specs.Bytes.{Appends, AppendsPart, TakesAll, TakesTooMany}
use Rattle.mx_reader.specs.FirstBadLine.{IsFirstBad}
use Rattle.mx_script.specs.Sessions.{Outline}
use Rattle.mx_state.specs.declared.journal.Entry as journaled
use Rattle.mx_transcript.specs.Transcripts.{Step}

-- the greatest size of both texts together, in bytes
abbrev pub most_bytes : ℕ
most_bytes = 33554432

abbrev pub bad_line_text : ℕ → List ℕ
bad_line_text number = codes "bad line " ++ decimal number ++ codes "\n"

-- the source was read to its end, and these are its bytes, within the limit
pub record IsRead (source source' : Option (List ℕ)) (spelled : List ℕ) : Type 0 where
  pub taken : TakesAll source source' spelled
  pub within : length spelled ≤ most_bytes

-- the bytes are the texts of a session and of a run, and the sink gained what is told of that run
pub record TellsRun (spelled : List ℕ) (sink sink' : Option (List ℕ)) : Type 0 where
  pub session : Outline
  pub journal : List journaled.Entry
  pub transcripts : List (List Step)
  pub text : IsBothText spelled session journal transcripts
  pub told : GainsVerdict sink sink' session journal transcripts

-- the bytes are no such texts, and the sink gained the number of their first bad line
pub record TellsBadLine (spelled : List ℕ) (sink sink' : Option (List ℕ)) : Type 0 where
  pub number : ℕ
  pub first : IsFirstBad IsSomeBoth spelled number
  pub told : Appends sink sink' (bad_line_text number)

-- what is told of bytes within the limit, and the status: 0 of both texts, 5 of others
abbrev pub TellsBytes : List ℕ → Option (List ℕ) → Option (List ℕ) → ℕ → Type 0
TellsBytes spelled sink sink' status =
    ((status ≡ 0) × TellsRun spelled sink sink') ⊎ ((status ≡ 5) × TellsBadLine spelled sink sink')

-- status 0
pub record IsToldSource (source source' sink sink' : Option (List ℕ)) : Type 0 where
  pub spelled : List ℕ
  pub read : IsRead source source' spelled
  pub run : TellsRun spelled sink sink'

-- status 5
pub record IsBadSource (source source' sink sink' : Option (List ℕ)) : Type 0 where
  pub spelled : List ℕ
  pub read : IsRead source source' spelled
  pub bad : TellsBadLine spelled sink sink'

-- the bytes are both texts, and the sink gained a front of what is told of the run, and not all of it
pub record TellsRunFront (spelled : List ℕ) (sink sink' : Option (List ℕ)) : Type 0 where
  pub session : Outline
  pub journal : List journaled.Entry
  pub transcripts : List (List Step)
  pub text : IsBothText spelled session journal transcripts
  pub front : GainsVerdictFront sink sink' session journal transcripts

-- they are not, and it gained a front of the number of their first bad line
pub record TellsBadLineFront (spelled : List ℕ) (sink sink' : Option (List ℕ)) : Type 0 where
  pub number : ℕ
  pub first : IsFirstBad IsSomeBoth spelled number
  pub front : AppendsPart sink sink' (bad_line_text number)

-- a front of it
abbrev pub TellsBytesFront : List ℕ → Option (List ℕ) → Option (List ℕ) → Type 0
TellsBytesFront spelled sink sink' = TellsRunFront spelled sink sink' ⊎ TellsBadLineFront spelled sink sink'

-- the source was read to its end, and the sink gained a front of what is due of its bytes
pub record IsCutSource (source source' sink sink' : Option (List ℕ)) : Type 0 where
  pub spelled : List ℕ
  pub read : IsRead source source' spelled
  pub front : TellsBytesFront spelled sink sink'

-- Status 4: a front of what is due was written, and not all of it.
abbrev pub GainsSourceFront : Option (List ℕ) → Option (List ℕ) → Option (List ℕ) → Option (List ℕ) → Type 0
GainsSourceFront source source' sink sink' =
    (TakesTooMany most_bytes source source' × AppendsPart sink sink' (codes "too long\n")) ⊎ IsCutSource source source' sink sink'

-- Statuses 1, 3 and 4: memory ran out, or the source or the sink failed.
abbrev pub IsStopped : ℕ → Type 0
IsStopped status = (status ≡ 1) ⊎ ((status ≡ 3) ⊎ (status ≡ 4))

-- The status that the bytes of the source ask for.
pub record IsDueStatus (spelled : List ℕ) (status : ℕ) : Type 0 where
  pub run : length spelled ≤ most_bytes → IsSomeBoth spelled → status ≡ 0
  pub no_run : length spelled ≤ most_bytes → (IsSomeBoth spelled → ⊥) → status ≡ 5
  pub too_long : most_bytes < length spelled → status ≡ 6
