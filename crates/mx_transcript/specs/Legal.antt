-- A legal run of a session: its journal and its transcripts keep all the rules. One field a rule.
use Rattle.std.specs.Prelude.{◌≡◌, ℕ, ◌+◌, ◌<◌, ◌≤◌, ◌==◌, min, List, map, take, length}
use Rattle.mx_upcall.specs.Control.{Control}
use Rattle.mx_request.specs.declared.requests.Request.{Request}
use Rattle.mx_script.specs.Sessions.{Outline, limit_of}
use Rattle.mx_script.specs.declared.lines.Line.{Line}
use Rattle.mx_transcript.specs.Opened.{opening_of}
use Rattle.mx_state.specs.History.{IsRight}
use Rattle.mx_state.specs.declared.journal.Entry as journaled
use Rattle.mx_transcript.specs.Access.{descriptor_of}
use Rattle.mx_reads.specs.Deeds.{Deeds}
use Rattle.mx_reads.specs.ReadRule.{AreRightReads}
use Rattle.mx_transcript.specs.Falls.{AreGated, AreSound}
use Rattle.mx_transcript.specs.FullJournal.{AreFullFrom, HasNoneAfterFull}
use Rattle.mx_transcript.specs.Misses.{IsChanged, AreRightMisses}
use Rattle.mx_transcript.specs.Points.{ArePoints}
use Rattle.mx_transcript.specs.Reads.{IsKnown}
use Rattle.mx_transcript.specs.References.{deeds_by}
use Rattle.mx_transcript.specs.Parts.{AreLines, AreLinesOf}
use Rattle.mx_transcript.specs.Scripts.{lines_of}
use Rattle.mx_transcript.specs.Openings.{opening_control}
use Rattle.mx_transcript.specs.Settings.{Setting}
use Rattle.mx_transcript.specs.Uses.{use_of}
use Rattle.mx_transcript.specs.Transcripts.{Step, part, events_of, entries_named, numbers_of}

-- a call: who made it, in which ring, and what it asked
pub record Call : Type 0 where
  pub process : ℕ
  pub ring : ℕ
  pub request : Request

abbrev pub call_of : journaled.Entry → Call
call_of entry = record { process = entry.process; ring = entry.ring; request = entry.request }

abbrev pub setup_call : Request → Call
setup_call request = record { process = 0; ring = 0; request = request }

-- how many entries the setup has: one each of its lines, as far as the limit allows
abbrev pub setup_entries : Outline → ℕ
setup_entries session = min (length session.setup) (limit_of session)

-- what the lines of process p are held against: each reference is judged on the access at its printed point
abbrev pub setting_of : Outline → List journaled.Entry → ℕ → Setting
setting_of session journal p = record {
  process = p;
  journal = journal;
  full = length journal == limit_of session;
  descriptor = descriptor_of session journal p;
}

-- what each process did, each cell in its use at the element's printed point
abbrev pub deeds : Outline → List journaled.Entry → List (List Step) → Deeds
deeds session journal transcripts =
    deeds_by (use_of session journal) (descriptor_of session journal) (λ p. events_of (part transcripts p))

-- the rules of a legal run
pub record IsLegal (session : Outline) (journal : List journaled.Entry) (transcripts : List (List Step)) : Type 0 where
  -- the journal is within its limit
  pub within_limit : length journal ≤ limit_of session
  -- it is one history of the plain supervisor: each reply is the plain supervisor's at its place
  pub right : IsRight (opening_of session) journal
  -- it begins with the setup, made by the initializer in ring 0
  pub setup_first : take (setup_entries session) (map call_of journal) ≡ take (setup_entries session) (map setup_call session.setup)
  -- each line of the setup past the limit found the journal full
  pub setup_full : AreFullFrom (setup_entries session) (part transcripts 0)
  -- there is one transcript for the initializer and each process
  pub parts : length transcripts ≡ 1 + length session.principals
  -- the entries of each process are those that its transcript names, in order, each once
  pub each_call_once : (p : ℕ) → entries_named (events_of (part transcripts p)) ≡ numbers_of p journal
  -- each has the lines of the session in order, all of them or cut after a denied line, and they keep the line rule and the
  -- register rules: each reference is what its line asks for, and what the judging rule gives on the access at its printed
  -- point
  pub lines : (p : ℕ) → p < length transcripts
      → (after : Control) × AreLines (setting_of session journal p) (opening_control session p) (lines_of session p)
      (part transcripts p) after
  -- a process that found the journal full enters nothing more
  pub none_after_full : (p : ℕ) → HasNoneAfterFull (part transcripts p)
  -- each miss names another process's entry that changed the access
  pub misses : (p : ℕ) → AreRightMisses journal (IsChanged session journal p) p (deeds session journal transcripts p)
  -- no point precedes anything that its process had seen
  pub points : (p : ℕ) → ArePoints (setup_entries session) (length journal) (deeds session journal transcripts p)
  -- each word read is the store that the read rule gives, where stores are known by entries
  pub reads : AreRightReads (deeds session journal transcripts) (IsKnown (deeds session journal transcripts))

-- this holds of the lines that process p's part has
pub record HoldsOfPart (session : Outline) (p : ℕ) (steps : List Step) (Holds : List (ℕ × Line) → Type 0) : Type 0 where
  pub ran : List (ℕ × Line)
  pub are : AreLinesOf (lines_of session p) steps ran
  pub holds : Holds ran

-- the current ring of a process falls only through gates
pub record HasGatedFalls (session : Outline) (journal : List journaled.Entry) (transcripts : List (List Step)) : Type 0 where
  pub each : (p : ℕ) → HoldsOfPart session p (part transcripts p)
      (λ ran. AreGated (setting_of session journal p) (opening_control session p) ran (part transcripts p))

-- and its pointer registers never have less, whichever of those lines the part has
pub record HasSoundRegisters (session : Outline) (journal : List journaled.Entry)
    (transcripts : List (List Step)) : Type 0 where
  pub each : (p : ℕ) (ran : List (ℕ × Line)) → AreLinesOf (lines_of session p) (part transcripts p) ran
      → AreSound (setting_of session journal p) (opening_control session p) ran (part transcripts p)
