-- The breach of a printed run: the first place at which it is no legal run of its session.
use Rattle.std.specs.Prelude.{◌≡◌, ◌⊎◌, ℕ, zero, suc, ◌+◌, ◌<◌, ◌≤◌, ◌==◌, max, Bool, false, ◌&&◌, ◌||◌, if◌then◌else◌, List, [], ◌∷◌, length, slice_get, Option, Some, None, is_some}
use Rattle.mx_script.specs.Sessions.{Outline}
use Rattle.mx_script.specs.declared.lines.Line.{Line}
use Rattle.mx_state.specs.declared.journal.Entry as journaled
use Rattle.mx_transcript.specs.Denials.{denial_of}
use Rattle.mx_transcript.specs.Scripts.{lines_of}
use Rattle.mx_transcript.specs.Transcripts.{Step, entries_named, events_of, numbers_of, part}
use Rattle.mx_legal.specs.Entries.{AreGoodTo, IsFirstBad}
use Rattle.mx_legal.specs.Fronts.{IsGoodPart, IsGoodTo}

-- the number of the line at a place; past the last line that of the last one, and 0 where there is none
abbrev pub number_at : List (ℕ × Line) → ℕ → ℕ
number_at [] k = 0
number_at (line ∷ []) k = line.0
number_at (line ∷ next ∷ lines) zero = line.0
number_at (line ∷ next ∷ lines) (suc k) = number_at (next ∷ lines) k

-- what is printed here has the number of the last line
abbrev pub is_last : List (ℕ × Line) → Option Step → Bool
is_last lines None = false
is_last lines (Some step) = step.0 == number_at lines (length lines)

-- what is printed here was denied
abbrev pub was_denied : Option Step → Bool
was_denied None = false
was_denied (Some step) = is_some (denial_of step)

-- The number of the line that is blamed where a part breaks a rule at a place, and not before. It is that of the next line. But
-- it is that of the last line where this was printed before, or where it is printed here behind a line that was denied, as in a
-- part that is cut.
abbrev pub blamed : List (ℕ × Line) → List Step → ℕ → ℕ
blamed lines steps zero = number_at lines zero
blamed lines steps (suc k) =
    if is_last lines (slice_get steps k) || (was_denied (slice_get steps k) && is_last lines (slice_get steps (suc k)))
    then number_at lines (length lines) else number_at lines (suc k)

-- how many parts are looked at: those of the initializer and of each process of the session, and those of processes that the
-- session has not
abbrev pub parts_in : Outline → List (List Step) → ℕ
parts_in session transcripts = max (1 + length session.principals) (length transcripts)

-- process p's part names each of its entries
abbrev pub HasNamed : List journaled.Entry → List (List Step) → ℕ → Type 0
HasNamed journal transcripts p = entries_named (events_of (part transcripts p)) ≡ numbers_of p journal

-- Process p's part keeps the rules up to the line at this place, and not beyond: that line is bad, or it is missing, or the
-- session has no such process.
pub record IsBadLine (session : Outline) (journal : List journaled.Entry) (transcripts : List (List Step)) (p k : ℕ) : Type 0 where
  pub within : k ≤ length (part transcripts p)
  pub good : IsGoodTo session journal transcripts p k
  pub next : k < length (part transcripts p) → IsGoodTo session journal transcripts p (suc k) → ⊥
  pub bad : IsGoodPart session journal transcripts p → ⊥

-- an entry is the breach: the first bad one; it has its process and no line
pub record IsEntryBreach (session : Outline) (journal : List journaled.Entry) (process line : ℕ) : Type 0 where
  pub place : ℕ
  pub first : IsFirstBad session journal place
  pub whose : process ≡ first.entry.process
  pub no_line : line ≡ 0

-- a line is the breach: all entries are good, and all parts before its own
pub record IsLineBreach (session : Outline) (journal : List journaled.Entry) (transcripts : List (List Step)) (process line : ℕ)
    : Type 0 where
  pub entries : AreGoodTo session journal (length journal)
  pub there : process < parts_in session transcripts
  pub before : (earlier : ℕ) → earlier < process → IsGoodPart session journal transcripts earlier
  pub place : ℕ
  pub bad : IsBadLine session journal transcripts process place
  pub number : line ≡ blamed (lines_of session process) (part transcripts process) place

-- an entry that no line names is the breach: all entries and all parts are good, and the parts before name all of their
-- entries; it has its process and no line
pub record IsUnnamedBreach (session : Outline) (journal : List journaled.Entry) (transcripts : List (List Step)) (process line : ℕ)
    : Type 0 where
  pub entries : AreGoodTo session journal (length journal)
  pub parts : (p : ℕ) → p < parts_in session transcripts → IsGoodPart session journal transcripts p
  pub before : (earlier : ℕ) → earlier < process → HasNamed journal transcripts earlier
  pub unnamed : HasNamed journal transcripts process → ⊥
  pub no_line : line ≡ 0

-- the breach of a run is of this process and this line
abbrev pub IsBreach : Outline → List journaled.Entry → List (List Step) → ℕ → ℕ → Type 0
IsBreach session journal transcripts process line =
    IsEntryBreach session journal process line
    ⊎ (IsLineBreach session journal transcripts process line ⊎ IsUnnamedBreach session journal transcripts process line)
