-- Which rule on the part of a process a line breaks: with it the lines do not keep the rule any more.
use Rattle.std.specs.Prelude.{◌≡◌, ℕ, suc, ◌<◌, List, length, Option, Some}
use Rattle.mx_breach.specs.declared.rules.Broken.{Broken}
use Rattle.mx_breach.specs.declared.rules.Rule.{Rule}
use Rattle.mx_breach.specs.declared.rules.Rule.TheVariants.{Full, Lines, Misses, Naming, Points, Reads, Setup}
use Rattle.mx_legal.specs.Deciding.{AreInitialTo, AreOwnReadsTo}
use Rattle.mx_legal.specs.Fronts.{AreDoneTo, HasNoEarlyFullTo, IsGoodPart, events_to}
use Rattle.mx_legal.specs.declared.failing.Failing.{Failing}
use Rattle.mx_points.specs.Fronts.{AreNamedTo, ArePointsTo, AreRightMissesTo, IsFirstBad, IsLineOf, IsNaming}
use Rattle.mx_script.specs.Sessions.{Outline}
use Rattle.mx_state.specs.declared.journal.Entry as journaled
use Rattle.mx_transcript.specs.Legal.{deeds, setup_entries}
use Rattle.mx_transcript.specs.Misses.{IsChanged}
use Rattle.mx_transcript.specs.Transcripts.{Step, part}

-- The line at place k of process p's part breaks this rule. By `Lines` the lines up to it are the session's, in order, all of
-- these or those of a part that is cut after a denied line, and keep the line rule. Of reads it is said where the parts before
-- are good.
abbrev pub IsBroken : Outline → List journaled.Entry → List (List Step) → ℕ → ℕ → Rule → Type 0
IsBroken session journal transcripts p k Lines = AreDoneTo session journal p (part transcripts p) (suc k) → ⊥
IsBroken session journal transcripts p k Naming = AreNamedTo journal p (part transcripts p) (suc k) → ⊥
IsBroken session journal transcripts p k Points =
    ArePointsTo (setup_entries session) (length journal) (deeds session journal transcripts p) (events_to (part transcripts p) (suc k)) → ⊥
IsBroken session journal transcripts p k Misses =
    AreRightMissesTo journal (IsChanged session journal p) p (deeds session journal transcripts p) (events_to (part transcripts p) (suc k)) → ⊥
IsBroken session journal transcripts p k Reads =
    ((earlier : ℕ) → earlier < p → IsGoodPart session journal transcripts earlier)
    → AreOwnReadsTo session journal transcripts p (events_to (part transcripts p) (suc k)) → ⊥
IsBroken session journal transcripts p k Setup = AreInitialTo session p (part transcripts p) (suc k) → ⊥
IsBroken session journal transcripts p k Full = HasNoEarlyFullTo (part transcripts p) (suc k) → ⊥

-- Helpers: where each rule on the part of process p fails first
pub record AreFailing (session : Outline) (journal : List journaled.Entry) (transcripts : List (List Step)) (p : ℕ)
    (failing : Failing) : Type 0 where
  pub lines : failing.lines.items ≡ part transcripts p
  pub line : IsFirstBad (AreDoneTo session journal p (part transcripts p)) (length (part transcripts p)) failing.line
  pub naming : IsNaming journal p (part transcripts p) failing.naming
  pub setup : IsFirstBad (AreInitialTo session p (part transcripts p)) (length (part transcripts p)) failing.setup
  pub full : IsFirstBad (HasNoEarlyFullTo (part transcripts p)) (length (part transcripts p)) failing.full
  pub read : ((earlier : ℕ) → earlier < p → IsGoodPart session journal transcripts earlier)
      → IsFirstBad (AreOwnReadsTo session journal transcripts p) (length (deeds session journal transcripts p)) failing.read
  pub miss : IsFirstBad (AreRightMissesTo journal (IsChanged session journal p) p (deeds session journal transcripts p))
      (length (deeds session journal transcripts p)) failing.miss
  pub point : IsFirstBad (ArePointsTo (setup_entries session) (length journal) (deeds session journal transcripts p))
      (length (deeds session journal transcripts p)) failing.point

-- the rule fails at an event of the line
pub record IsWithin (lines : List Step) (place : ℕ) (failed : Option ℕ) : Type 0 where
  pub event : ℕ
  pub at : failed ≡ Some event
  pub line : IsLineOf lines event place

-- one broken rule is told, or another
pub record IsOther (rule : Rule) (event : Option ℕ) (told : Option Broken) : Type 0 where
  pub at : ℕ
  pub event_is : event ≡ Some at
  pub told_is : told ≡ Some (record { rule = rule; event = at })
