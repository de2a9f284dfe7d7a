-- Lines that wait: `block` with two entries, with one, and with one and a full journal; wrong ones, each one change away
-- from them; and the numbers that lines have in a session that sets a limit.
use Rattle.std.specs.Prelude.{◌≡◌, ℕ, Bool, true, false, List, [], ◌∷◌, map, Some, codes}
use Rattle.mx_call.specs.Registers.{Registers}
use Rattle.mx_upcall.specs.Control.{Control, ungated}
use Rattle.mx_aim.specs.Classes.{lowest}
use Rattle.mx_request.specs.declared.entrants.Entrant.{Entrant}
use Rattle.mx_request.specs.declared.replies.Reply.TheVariants as reply
use Rattle.mx_request.specs.declared.requests.Request.TheVariants.{ChangeWdir, Block, Resume, Logout}
use Rattle.mx_sdw.specs.Descriptors.{unknown_desc}
use Rattle.mx_state.specs.declared.journal.Entry as journaled
use Rattle.mx_script.specs.Sessions.{Outline, outline, entrant, is_session}
use Rattle.mx_script.specs.declared.lines.Line.{Line}
use Rattle.mx_script.specs.declared.lines.Line.TheVariants as line
use Rattle.mx_transcript.specs.declared.transcripts.Event2.{Event2}
use Rattle.mx_transcript.specs.declared.transcripts.Event2.TheVariants.{Entry}
use Rattle.mx_transcript.specs.declared.transcripts.Result2.{Result2}
use Rattle.mx_transcript.specs.declared.transcripts.Result2.TheVariants as result
use Rattle.mx_transcript.specs.Lines.{IsLine}
use Rattle.mx_transcript.specs.Openings.{opening_registers}
use Rattle.mx_transcript.specs.Parts.{AreLines}
use Rattle.mx_transcript.specs.Scripts.{lines_of}
use Rattle.mx_transcript.specs.Settings.{Setting}

-- entries of process 1: it blocks and waits; it resumes with a message; it resumes and should wait again; it blocks and
-- is told that there is nobody; and process 2 resumes
abbrev pub blocked : journaled.Entry
blocked = record { process = 1; ring = 4; request = Block; reply = reply.Waiting }

abbrev pub resumed : journaled.Entry
resumed = record { process = 1; ring = 4; request = Resume; reply = reply.Message 2 7 }

abbrev pub waits_on : journaled.Entry
waits_on = record resumed { reply = reply.Waiting }

abbrev pub alone : journaled.Entry
alone = record blocked { reply = reply.Nobody }

abbrev pub other : journaled.Entry
other = record resumed { process = 2; reply = reply.Message 1 7 }

abbrev pub setting : Bool → Setting
setting full = record {
  process = 1;
  journal = blocked ∷ resumed ∷ waits_on ∷ alone ∷ other ∷ [];
  full = full;
  descriptor = λ e. unknown_desc;
}

abbrev pub g : Registers
g = opening_registers 1

abbrev pub block : Line
block = line.Ask Block

pub record RightWaits : Type 0 where
  -- it waits, and resumes with a message
  pub waited : IsLine (setting false) (ungated g) block (Entry 1 ∷ Entry 2 ∷ []) result.Done (ungated g)
  -- it waits, and finds the journal full
  pub waited_full : IsLine (setting true) (ungated g) block (Entry 1 ∷ []) result.HistoryFull (ungated g)
  -- it is told at once that there is nobody
  pub told : IsLine (setting false) (ungated g) block (Entry 4 ∷ []) result.Done (ungated g)
  -- it found the journal full before
  pub full : IsLine (setting true) (ungated g) block [] result.HistoryFull (ungated g)

-- no such line, below the limit
abbrev pub Never : List Event2 → Result2 → Type 0
Never events ends = (after : Control) → IsLine (setting false) (ungated g) block events ends after → ⊥

pub record WrongWaits : Type 0 where
  -- one entry where two are due
  pub unresumed : Never (Entry 1 ∷ []) result.Done
  -- that the journal was full, below its limit
  pub below_limit : Never (Entry 1 ∷ []) result.HistoryFull
  -- it resumes where it did not wait, or where it did not block
  pub not_told_to_wait : Never (Entry 4 ∷ Entry 2 ∷ []) result.Done
  pub not_blocked : Never (Entry 2 ∷ []) result.Done
  -- it resumes with `waiting`, and ends, or resumes once more
  pub still_waiting : Never (Entry 1 ∷ Entry 3 ∷ []) result.Done
  pub twice : Never (Entry 1 ∷ Entry 3 ∷ Entry 2 ∷ []) result.Done
  -- another process resumes
  pub others_entry : Never (Entry 1 ∷ Entry 5 ∷ []) result.Done
  -- it blocks once more
  pub blocked_twice : Never (Entry 1 ∷ Entry 1 ∷ []) result.Done

-- two processes, a journal of three entries: `history 3` is line 2, the first process's line is line 3
abbrev pub somebody : Entrant
somebody = entrant (record { person = codes "A"; project = codes "B"; tag = codes "c" }) lowest

abbrev pub to_root : Line
to_root = line.Ask (ChangeWdir (codes ">"))

abbrev pub logout : Line
logout = line.Ask Logout

abbrev pub limited : Outline
limited = outline 1 (Some 3) [] (somebody ∷ somebody ∷ [])
    ((block ∷ logout ∷ []) ∷ (to_root ∷ to_root ∷ to_root ∷ logout ∷ []) ∷ [])

abbrev pub numbers_of_lines : ℕ → List ℕ
numbers_of_lines p = map (λ l. l.0) (lines_of limited p)

pub record LimitLines : Type 0 where
  pub session : is_session limited ≡ true
  pub first : numbers_of_lines 1 ≡ 4 ∷ 5 ∷ []
  pub second : numbers_of_lines 2 ≡ 7 ∷ 8 ∷ 9 ∷ 10 ∷ []
  -- the same lines under the numbers that they would have without the limit
  pub not_moved : (after : Control)
      → AreLines (setting true) (ungated g) (lines_of limited 1)
      ((3, [], result.HistoryFull) ∷ (4, [], result.HistoryFull) ∷ []) after → ⊥
