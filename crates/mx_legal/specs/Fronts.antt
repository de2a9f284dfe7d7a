-- How far the part of a process keeps the rules of a legal run: each rule said of its first lines.
use Rattle.std.specs.Prelude.{◌≡◌, ℕ, ◌<◌, ◌≤◌, List, [], length, Some, slice_get, take}
use Rattle.mx_parts.specs.FirstBad.{AreKept}
use Rattle.mx_reads.specs.Deeds.{Deeds}
use Rattle.mx_reads.specs.ReadRule.{HasRead, IsRightRead, Known, Reading}
use Rattle.mx_reads.specs.Sightings.{Source}
use Rattle.mx_script.specs.Sessions.{Outline}
use Rattle.mx_state.specs.declared.journal.Entry as journaled
use Rattle.mx_transcript.specs.Legal.{deeds, setting_of, setup_entries}
use Rattle.mx_transcript.specs.Misses.{IsChanged}
use Rattle.mx_transcript.specs.Openings.{opening_control}
use Rattle.mx_transcript.specs.Parts.{AreLines}
use Rattle.mx_transcript.specs.Reads.{IsKnown}
use Rattle.mx_transcript.specs.Scripts.{lines_of}
use Rattle.mx_transcript.specs.Transcripts.{Step, entries_named, events_of, part}
use Rattle.mx_transcript.specs.declared.transcripts.Result2.TheVariants.{HistoryFull}
use Rattle.mx_upcall.specs.Control.{Control}
use Rattle.mx_points.specs.Fronts.{AreNamedTo, ArePointsTo, AreRightMissesTo, AreSetupLinesTo}

-- how many events the first k lines of a part have
abbrev pub events_to : List Step → ℕ → ℕ
events_to steps k = length (events_of (take k steps))

-- the first k lines are those of the session, in order, all of these or those of a part that is cut after a denied line, and
-- keep the line rule and the register rules
abbrev pub AreDoneTo : Outline → List journaled.Entry → ℕ → List Step → ℕ → Type 0
AreDoneTo session journal p steps k =
    AreKept (setting_of session journal p) (opening_control session p) (lines_of session p) (take k steps)

-- none of the first k lines found the journal full before a line that has an entry
abbrev pub HasNoEarlyFullTo : List Step → ℕ → Type 0
HasNoEarlyFullTo steps k = (place later : ℕ) (full step : Step) → place < k → slice_get steps place ≡ Some full → full.2 ≡ HistoryFull
    → place < later → slice_get steps later ≡ Some step → entries_named step.1 ≡ []

-- each read of process p below a place of its deeds is right, for some stores that its reads stand for
pub record AreRightReadsTo (done : Deeds) (is_known : Known) (p n : ℕ) : Type 0 where
  pub source : Source
  pub right : (read : Reading) → HasRead done read → read.process ≡ p → read.place < n → IsRightRead done is_known source read

-- the first k lines of process p's part keep the rules
pub record IsGoodTo (session : Outline) (journal : List journaled.Entry) (transcripts : List (List Step)) (p k : ℕ) : Type 0 where
  pub lines : AreDoneTo session journal p (part transcripts p) k
  pub named : AreNamedTo journal p (part transcripts p) k
  pub setup : p ≡ 0 → AreSetupLinesTo (setup_entries session) (part transcripts 0) k
  pub no_early_full : HasNoEarlyFullTo (part transcripts p) k
  pub misses : AreRightMissesTo journal (IsChanged session journal p) p (deeds session journal transcripts p)
      (events_to (part transcripts p) k)
  pub points : ArePointsTo (setup_entries session) (length journal) (deeds session journal transcripts p)
      (events_to (part transcripts p) k)
  pub reads : AreRightReadsTo (deeds session journal transcripts) (IsKnown (deeds session journal transcripts)) p
      (events_to (part transcripts p) k)

-- the whole part keeps the rules: the session has the process, and the part has all its lines, or those of a part that is cut
pub record IsGoodPart (session : Outline) (journal : List journaled.Entry) (transcripts : List (List Step)) (p : ℕ) : Type 0 where
  pub process : p ≤ length session.principals
  pub good : IsGoodTo session journal transcripts p (length (part transcripts p))
  pub whole : (after : Control) × AreLines (setting_of session journal p) (opening_control session p) (lines_of session p)
      (part transcripts p) after
