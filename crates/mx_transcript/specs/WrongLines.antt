-- Wrong lines, each one change away from the right ones beside them: the line rule refuses them.
use Rattle.std.specs.Prelude.{ℕ, true, false, List, [], ◌∷◌, None}
use Rattle.mx_sdw.specs.Descriptors.{segment_desc}
use Rattle.mx_sdw.specs.declared.denials.Denial.TheVariants as denial
use Rattle.mx_call.specs.Registers.{Registers}
use Rattle.mx_upcall.specs.Control.{Control, ungated}
use Rattle.mx_core.specs.declared.elements.Element.{Element}
use Rattle.mx_core.specs.declared.elements.Event.TheVariants.{Seen}
use Rattle.mx_core.specs.declared.elements.Kind.TheVariants as kind
use Rattle.mx_core.specs.declared.elements.Outcome.TheVariants as outcome
use Rattle.mx_hier.specs.declared.refusals.Refusal.TheVariants.{NoEntry}
use Rattle.mx_request.specs.declared.replies.Reply.TheVariants as reply
use Rattle.mx_request.specs.declared.requests.Request.TheVariants.{Logout, Initiate}
use Rattle.mx_state.specs.declared.journal.Entry as journaled
use Rattle.mx_script.specs.declared.lines.Base.TheVariants.{Segment}
use Rattle.mx_script.specs.declared.lines.Line.{Line}
use Rattle.mx_script.specs.declared.lines.Line.TheVariants as line
use Rattle.mx_transcript.specs.declared.transcripts.Event2.{Event2}
use Rattle.mx_transcript.specs.declared.transcripts.Event2.TheVariants.{Core, Entry}
use Rattle.mx_transcript.specs.declared.transcripts.Result2.{Result2}
use Rattle.mx_transcript.specs.declared.transcripts.Result2.TheVariants as result
use Rattle.mx_transcript.specs.Lines.{IsLine}
use Rattle.mx_transcript.specs.Openings.{opening_registers}
use Rattle.mx_transcript.specs.Parts.{AreLines}
use Rattle.mx_transcript.specs.Settings.{Setting}
use Rattle.mx_transcript.specs.Transcripts.{Step}

-- process 1's logout; one by another process, and one from another ring; and a request that was refused
abbrev pub out : journaled.Entry
out = record { process = 1; ring = 4; request = Logout; reply = reply.Done }

abbrev pub refused : journaled.Entry
refused = record { process = 1; ring = 4; request = Logout; reply = reply.Refused NoEntry }

-- process 1, with a journal below its limit; every segment has 64 words, to read and write up to ring 4
abbrev pub setting : Setting
setting = record {
  process = 1;
  journal = out ∷ record out { process = 2 } ∷ record out { ring = 5 } ∷ refused ∷ [];
  full = false;
  descriptor = λ e. segment_desc (record { r1 = 4; r2 = 4; r3 = 4 }) true false true 0 5 64;
}

abbrev pub g : Registers
g = record (opening_registers 1) { a = 7 }

-- no such line
abbrev pub Never : Line → List Event2 → Result2 → Type 0
Never l events ends = (after : Control) → IsLine setting (ungated g) l events ends after → ⊥

abbrev pub lda : ℕ → Line
lda word = line.Lda (record { base = Segment 8; word = word; indirect = false })

abbrev pub sta : Line
sta = line.Sta (record { base = Segment 8; word = 0; indirect = false })

-- what `lda 8|0` and `sta 8|0` rightly print
abbrev pub read : Element
read = record { kind = kind.Read; segno = 8; word = 0; ring = 4; point = 3; outcome = outcome.Read 5 2 1 }

abbrev pub written : Element
written = record { kind = kind.Write; segno = 8; word = 0; ring = 4; point = 3; outcome = outcome.Written 7 }

-- a word beyond the bound
abbrev pub outside : Element
outside = record read { word = 64; outcome = outcome.Denied denial.OutOfBounds }

-- references: another value than A is stored; another result than the word read; the end before the line's own
-- reference; a second reference; a read printed for a store; another ring; a grant where the rule denies; a denial
-- with another name
pub record WrongReferences : Type 0 where
  pub right_load : IsLine setting (ungated g) (lda 0) (Core (Seen read) ∷ []) (result.A 5) (ungated (record g { a = 5 }))
  pub right_store : IsLine setting (ungated g) sta (Core (Seen written) ∷ []) result.Done (ungated g)
  pub right_denial : IsLine setting (ungated g) (lda 64) (Core (Seen outside) ∷ []) (result.Denied denial.OutOfBounds) (ungated g)
  pub other_value : Never sta (Core (Seen (record written { outcome = outcome.Written 1 })) ∷ []) result.Done
  pub other_result : Never (lda 0) (Core (Seen read) ∷ []) (result.A 6)
  pub none : Never (lda 0) [] result.Done
  pub second : Never (lda 0) (Core (Seen read) ∷ Core (Seen read) ∷ []) (result.A 5)
  pub other_kind : Never sta (Core (Seen (record written { kind = kind.Read })) ∷ []) result.Done
  pub other_ring : Never (lda 0) (Core (Seen (record read { ring = 3 })) ∷ []) (result.A 5)
  pub granted : Never (lda 64) (Core (Seen (record read { word = 64 })) ∷ []) (result.A 5)
  pub other_denial : Never (lda 64) (Core (Seen (record outside { outcome = outcome.Denied denial.ReadBracket })) ∷ [])
      (result.Denied denial.ReadBracket)

-- calls: another request's entry; another process's; one from another ring; a refusal printed as done; a full journal
-- below its limit
pub record WrongCalls : Type 0 where
  pub right_call : IsLine setting (ungated g) (line.Ask Logout) (Entry 1 ∷ []) result.Done (ungated g)
  pub other_request : (path : List ℕ) → Never (line.Ask (Initiate path None)) (Entry 1 ∷ []) result.Done
  pub others_entry : Never (line.Ask Logout) (Entry 2 ∷ []) result.Done
  pub other_ring : Never (line.Ask Logout) (Entry 3 ∷ []) result.Done
  pub not_refused : Never (line.Ask Logout) (Entry 4 ∷ []) result.Done
  pub below_limit : Never (line.Ask Logout) [] result.HistoryFull

abbrev pub two_sets : List (ℕ × Line)
two_sets = (5, line.Set 1) ∷ (6, line.Set 2) ∷ []

-- a first line, then two that are always done, and the last, which logs the process out
abbrev pub four_lines : Line → List (ℕ × Line)
four_lines first = (5, first) ∷ (6, line.Set 1) ∷ (7, line.Set 2) ∷ (8, line.Ask Logout) ∷ []

-- what a first line that is denied comes to, one that is done, and the last
abbrev pub denied_first : Step
denied_first = (5, Core (Seen outside) ∷ [], result.Denied denial.OutOfBounds)

abbrev pub done_under : ℕ → Step
done_under number = (number, [], result.Done)

abbrev pub logged_out : Step
logged_out = (8, Entry 1 ∷ [], result.Done)

-- no part of four lines
abbrev pub NoPart : Line → List Step → Type 0
NoPart first steps = (after : Control) → AreLines setting (ungated g) (four_lines first) steps after → ⊥

-- scripts: a line left out; a line under another number; a line too many
pub record WrongScripts : Type 0 where
  pub left_out : (after : Control) → AreLines setting (ungated g) two_sets ((5, [], result.Done) ∷ []) after → ⊥
  pub other_number : (after : Control)
      → AreLines setting (ungated g) two_sets ((5, [], result.Done) ∷ (7, [], result.Done) ∷ []) after → ⊥
  pub too_many : (after : Control)
      → AreLines setting (ungated g) two_sets ((5, [], result.Done) ∷ (6, [], result.Done) ∷ (7, [], result.Done) ∷ []) after → ⊥
  -- right: after a line that was denied all others, or the last alone
  pub right_whole : AreLines setting (ungated g) (four_lines (lda 64))
      (denied_first ∷ done_under 6 ∷ done_under 7 ∷ logged_out ∷ []) (ungated (record g { a = 2 }))
  pub right_cut : AreLines setting (ungated g) (four_lines (lda 64)) (denied_first ∷ logged_out ∷ []) (ungated g)
  -- cut after a line that was not denied: none was, or an earlier one
  pub not_denied : NoPart (line.Set 3) (done_under 5 ∷ logged_out ∷ [])
  pub denied_before : NoPart (lda 64) (denied_first ∷ done_under 6 ∷ logged_out ∷ [])
  -- it goes on after its last line
  pub goes_on : NoPart (lda 64) (denied_first ∷ logged_out ∷ done_under 6 ∷ [])
  -- neither the next line nor the last comes then, or none at all
  pub other_line : NoPart (lda 64) (denied_first ∷ done_under 7 ∷ logged_out ∷ [])
  pub no_last : NoPart (lda 64) (denied_first ∷ [])
