-- Helpers that only private contracts cite: the rules of a part as they are decided.
use Rattle.std.specs.Prelude.{◌≡◌, ◌==◌, ℕ, ◌-◌, ◌<◌, ◌≤◌, Bool, true, false, List, [], length, Option, Some, None, slice_get, if◌then◌else◌}
use Rattle.mx_points.specs.Fronts.{AreNamedTo, ArePointsTo, AreRightMissesTo, AreSetupLinesTo, IsLineOf}
use Rattle.mx_points.specs.declared.naming.Naming.{Naming}
use Rattle.mx_points.specs.declared.naming.Naming.TheVariants.{Whole, Short, Misnamed}
use Rattle.mx_script.specs.Sessions.{Outline}
use Rattle.mx_script.specs.declared.lines.Line.{Line}
use Rattle.mx_state.specs.declared.journal.Entry as journaled
use Rattle.mx_stores.specs.declared.deciding.Breach.{Breach}
use Rattle.mx_transcript.specs.Legal.{deeds, setup_entries}
use Rattle.mx_transcript.specs.Misses.{IsChanged}
use Rattle.mx_transcript.specs.Reads.{IsKnown}
use Rattle.mx_transcript.specs.Transcripts.{Step, entries_named, part}
use Rattle.mx_transcript.specs.declared.transcripts.Result2.TheVariants.{HistoryFull}
use Rattle.mx_legal.specs.Breach.{HasNamed, is_last}
use Rattle.mx_legal.specs.Fronts.{AreDoneTo, AreRightReadsTo, HasNoEarlyFullTo, IsGoodPart}

-- the reads of process p below a place are right
abbrev pub AreOwnReadsTo : Outline → List journaled.Entry → List (List Step) → ℕ → ℕ → Type 0
AreOwnReadsTo session journal transcripts p =
    AreRightReadsTo (deeds session journal transcripts) (IsKnown (deeds session journal transcripts)) p

-- the deeds of process p below a place keep the rules on deeds
pub record AreRightDeedsTo (session : Outline) (journal : List journaled.Entry) (transcripts : List (List Step)) (p n : ℕ)
    : Type 0 where
  pub reads : AreOwnReadsTo session journal transcripts p n
  pub misses : AreRightMissesTo journal (IsChanged session journal p) p (deeds session journal transcripts p) n
  pub points : ArePointsTo (setup_entries session) (length journal) (deeds session journal transcripts p) n

-- where it is the initializer's part, its lines are as those of the setup
abbrev pub AreInitialTo : Outline → ℕ → List Step → ℕ → Type 0
AreInitialTo session p steps k = p ≡ 0 → AreSetupLinesTo (setup_entries session) steps k

-- the first k lines of process p keep the rules on lines
pub record AreRightLinesTo (session : Outline) (journal : List journaled.Entry) (p : ℕ) (steps : List Step) (k : ℕ) : Type 0 where
  pub lines : AreDoneTo session journal p steps k
  pub named : AreNamedTo journal p steps k
  pub setup : AreInitialTo session p steps k
  pub no_early_full : HasNoEarlyFullTo steps k

abbrev pub misnamed : Naming → Option ℕ
misnamed Whole = None
misnamed Short = None
misnamed (Misnamed place) = Some place

abbrev pub is_whole : Naming → Bool
is_whole Whole = true
is_whole Short = false
is_whole (Misnamed place) = false

-- a part with these steps is over: it ends with the last of these lines; or it has none, and neither are there lines
abbrev pub is_over : List (ℕ × Line) → List Step → Bool
is_over lines steps = if length steps == 0 then length lines == 0 else is_last lines (slice_get steps (length steps - 1))

-- the line of an event, where there is one
abbrev pub IsLineOfEvent : List Step → Option ℕ → Option ℕ → Type 0
IsLineOfEvent steps None line = line ≡ None
IsLineOfEvent steps (Some place) None = ⊥
IsLineOfEvent steps (Some place) (Some line) = IsLineOf steps place line

-- none of the first k lines found the journal full
abbrev pub HasNoFullTo : List Step → ℕ → Type 0
HasNoFullTo steps k = (place : ℕ) (step : Step) → place < k → slice_get steps place ≡ Some step → step.2 ≡ HistoryFull → ⊥

-- the first line that did is at this place
pub record IsFirstFull (steps : List Step) (place : ℕ) : Type 0 where
  pub step : Step
  pub at : slice_get steps place ≡ Some step
  pub full : step.2 ≡ HistoryFull
  pub before : HasNoFullTo steps place

-- no line from a place on, up to another, has an entry
abbrev pub HasNoEntryFrom : List Step → ℕ → ℕ → Type 0
HasNoEntryFrom steps from end = (place : ℕ) (step : Step) → from ≤ place → place < end → slice_get steps place ≡ Some step
    → entries_named step.1 ≡ []

-- the line at this place, from another on, has an entry
pub record IsEnteredFrom (steps : List Step) (from place : ℕ) : Type 0 where
  pub step : Step
  pub at : slice_get steps place ≡ Some step
  pub after : from ≤ place
  pub some : entries_named step.1 ≡ [] → ⊥

-- the place of the first wrong read, where it is process p's
abbrev pub place_of : Option Breach → ℕ → Option ℕ
place_of None p = None
place_of (Some breach) p = if breach.process == p then Some breach.place else None

-- the parts before p are good
abbrev pub AreGoodParts : Outline → List journaled.Entry → List (List Step) → ℕ → Type 0
AreGoodParts session journal transcripts p = (earlier : ℕ) → earlier < p → IsGoodPart session journal transcripts earlier

-- of the parts before p this is the first that does not name all of its entries, or each names them
pub record IsFirstUnnamed (journal : List journaled.Entry) (transcripts : List (List Step)) (p q : ℕ) : Type 0 where
  pub within : q < p
  pub before : (earlier : ℕ) → earlier < q → HasNamed journal transcripts earlier
  pub unnamed : HasNamed journal transcripts q → ⊥

abbrev pub IsUnnamedTo : List journaled.Entry → List (List Step) → ℕ → Option ℕ → Type 0
IsUnnamedTo journal transcripts p None = (earlier : ℕ) → earlier < p → HasNamed journal transcripts earlier
IsUnnamedTo journal transcripts p (Some q) = IsFirstUnnamed journal transcripts p q

abbrev pub or_unnamed : Option ℕ → ℕ → Bool → Option ℕ
or_unnamed (Some before) p named = Some before
or_unnamed None p true = None
or_unnamed None p false = Some p
