-- Helpers that only private contracts cite: the head and the parts of a run text, each read alone.
use Rattle.std.specs.Prelude.{◌≡◌, ℕ, ◌+◌, true, List, [], ◌∷◌, ◌++◌, length, Option, Some}
use Rattle.std.specs.List.{list_all}
use Rattle.mx_name.specs.Names.{is_free}
use Rattle.mx_reader.specs.Progress.{Counted, Ended, HasRead, line_step, part_at}
use Rattle.mx_request.specs.Steps.{◌>>=◌}
use Rattle.mx_script.specs.SessionTexts.{lines_text}
use Rattle.mx_state.specs.declared.journal.Entry as journaled
use Rattle.mx_transcript.specs.Transcripts.{Step}
use Rattle.mx_transcript.specs.declared.transcripts.Event2.{Event2}

-- where lines of a part lead
abbrev pub lines_step : List (List ℕ) → List Step × List Event2 → Option (List Step × List Event2)
lines_step [] before = Some before
lines_step (line ∷ lines) before = line_step before.0 before.1 line >>= lines_step lines

-- these bytes are whole lines of a part that lead here, and this rest
pub record HasFollowed (spelled rest : List ℕ) (steps : List Step) (events : List Event2) : Type 0 where
  pub lines : List (List ℕ)
  pub parts : spelled ≡ lines_text lines ++ rest
  pub whole : list_all (is_free 10) lines ≡ true
  pub leads : lines_step lines ([], []) ≡ Some (steps, events)

-- they are the part of this number and nothing more: its first line, and the lines that say these steps
pub record IsPart (number : ℕ) (spelled : List ℕ) (steps : List Step) : Type 0 where
  pub first : List ℕ
  pub rest : List ℕ
  pub parts : spelled ≡ first ++ 10 ∷ rest
  pub whole : is_free 10 first ≡ true
  pub process : ℕ
  pub heads : part_at number first ≡ Some process
  pub says : HasFollowed rest [] steps []

-- they are the part of this number, and then others
pub record IsPartThen (Others : List ℕ → Type 0) (number : ℕ) (spelled : List ℕ) (steps : List Step) : Type 0 where
  pub front : List ℕ
  pub rest : List ℕ
  pub parts : spelled ≡ front ++ rest
  pub is : IsPart number front steps
  pub others : Others rest

-- they are the parts of this number and those that follow, and nothing more
abbrev pub AreParts : ℕ → List ℕ → List (List Step) → Type 0
AreParts number spelled [] = spelled ≡ []
AreParts number spelled (steps ∷ parts) = IsPartThen (λ rest. AreParts (number + 1) rest parts) number spelled steps

-- they are the count of the entries and the entries, and nothing more
pub record IsHead (spelled : List ℕ) (journal : List journaled.Entry) : Type 0 where
  pub next : ℕ
  pub read : HasRead spelled [] next (Counted (length journal) journal)

-- they were read to their end as this run
pub record IsReadWhole (spelled : List ℕ) (journal : List journaled.Entry) (parts : List (List Step)) : Type 0 where
  pub next : ℕ
  pub read : HasRead spelled [] next (Ended journal parts)
