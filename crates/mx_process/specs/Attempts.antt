-- What an attempt at a line comes to.
use Rattle.std.specs.Prelude.{◌≡◌, ◌↔◌, ℕ, ◌≤◌, ◌∷◌, [], ◌++◌, List, IsSome, None, Some}
use Rattle.mx_core.specs.AssociativeMemory.{recalled}
use Rattle.mx_line.specs.declared.operands.Progress.TheVariants.{Before}
use Rattle.mx_line.specs.declared.processes.Process.{Process as LineState}
use Rattle.mx_request.specs.declared.requests.Request.{Request}
use Rattle.mx_script.specs.Sessions.{Outline}
use Rattle.mx_script.specs.declared.lines.Line.{Line}
use Rattle.mx_script.specs.declared.lines.Line.TheVariants.{Ask}
use Rattle.mx_state.specs.declared.journal.Entry as journaled
use Rattle.mx_transcript.specs.declared.transcripts.Event2.{Event2}
use Rattle.mx_transcript.specs.declared.transcripts.Result2.{Result2}
use Rattle.mx_process.specs.Plans.{number_in}
use Rattle.mx_process.specs.Processes.{ProcessValue, IsAtLine}
use Rattle.mx_process.specs.Turns.{Inside, Ends, Misses, Links, IsSameLine, IsLinking, IsUntold}
use Rattle.mx_process.specs.declared.misses.Fast.{Fast}
use Rattle.mx_process.specs.declared.misses.Fast.TheVariants as fast

-- what the turns of an attempt at a line that is no request come to
abbrev pub HasAttempted : Outline → List journaled.Entry → Line → LineState → Fast → Inside → Type 0
HasAttempted x setup line old fast.Done new = Ends x setup old new
HasAttempted x setup line old (fast.Missing segno by) new = Misses x setup line old (record { segno = segno; by = by }) new
HasAttempted x setup line old (fast.Link segno word ring) new =
    Links x setup line old (record { segno = segno; word = word; ring = ring }) new
HasAttempted x setup line old fast.Journal new = ⊥

-- the next line is a request
pub record IsAtRequest (x : Outline) (v : ProcessValue) : Type 0 where
  pub number : ℕ
  pub request : Request
  pub at : IsAtLine x v number (Ask request)

-- The line was done: it stands in the transcript under its number, with all its events and its result, and the next one
-- begins, which may be the last one: no fewer lines are left out than before.
pub record HasDone (old new : ProcessValue) : Type 0 where
  pub onward : old.state.first ≤ new.state.first
  pub more : List Event2
  pub ends : Result2
  pub steps : new.state.recording.steps ≡ old.state.recording.steps
      ++ (number_in old.state, old.state.recording.events ++ more, ends) ∷ []
  pub idle : new.state.recording.events ≡ []
  pub fresh : new.state.progress ≡ Before
  pub settled : new.missing ≡ None
  pub attended : IsSome old.account ↔ IsSome new.account
  pub untold : IsUntold old.pass new.pass

-- A reference of the line missed, of whose number the pass's memory has nothing. The miss is kept until it is settled.
pub record HasMissed (segno by : ℕ) (old new : ProcessValue) : Type 0 where
  pub same : IsSameLine old.state new.state
  pub kept : new.missing ≡ Some (record { segno = segno; by = by })
  pub none : recalled segno new.pass.view.memory ≡ None
  pub account : new.account ≡ old.account
  pub untold : IsUntold old.pass new.pass

-- The line asks for a call by which a link is snapped.
pub record IsAtLinkIn (x : Outline) (segno word ring : ℕ) (old new : ProcessValue) : Type 0 where
  pub same : IsSameLine old.state new.state
  pub settled : new.missing ≡ None
  pub number : ℕ
  pub line : Line
  pub at : IsAtLine x new number line
  pub linking : IsLinking new.state line (record { segno = segno; word = word; ring = ring })
  pub account : new.account ≡ old.account
  pub untold : IsUntold old.pass new.pass
