-- What the rules make of rings and registers in every legal run: the ring falls only through gates, and no pointer
-- register's ring is ever below it.
use Rattle.std.specs.Prelude.{ℕ, List}
use Rattle.mx_call.specs.Registers.{IsSound}
use Rattle.mx_upcall.specs.Control.{Control}
use Rattle.mx_upcall.specs.Soundness.{AreSoundGates}
use Rattle.mx_script.specs.Sessions.{Outline}
use Rattle.mx_script.specs.declared.lines.Line.{Line}
use Rattle.mx_state.specs.declared.journal.Entry as journaled
use Rattle.mx_transcript.specs.Falls.{IsGated, AreGated, AreSound}
use Rattle.mx_transcript.specs.Legal.{IsLegal, HasGatedFalls, HasSoundRegisters}
use Rattle.mx_transcript.specs.Lines.{IsLine}
use Rattle.mx_transcript.specs.Parts.{AreDone}
use Rattle.mx_transcript.specs.Settings.{Setting}
use Rattle.mx_transcript.specs.Transcripts.{Step}

-- no pointer register and no return gate leads below the ring
pub record IsSoundControl (control : Control) : Type 0 where
  pub registers : IsSound control.registers
  pub gates : AreSoundGates control.gates

-- what a line makes of the registers and gates
pub record IsKept (setting : Setting) (before : Control) (step : Step) (now : Control) : Type 0 where
  pub sound : IsSoundControl now
  pub gated : IsGated setting.descriptor before step now

abbrev pub LineRingsLaw : Type 0
LineRingsLaw = (setting : Setting) (before now : Control) (line : Line) (step : Step) → IsSoundControl before
    → IsLine setting before line step.1 step.2 now → IsKept setting before step now

-- so it is of all lines that are done
abbrev pub RingsLaw : Type 0
RingsLaw = (setting : Setting) (start now : Control) (lines left : List (ℕ × Line)) (steps : List Step)
    → IsSoundControl start → AreDone setting start lines steps left now
    → AreGated setting start lines steps × AreSound setting start lines steps

-- and of every legal run
abbrev pub LegalRingsLaw : Type 0
LegalRingsLaw = (session : Outline) (journal : List journaled.Entry) (transcripts : List (List Step))
    → IsLegal session journal transcripts
    → HasGatedFalls session journal transcripts × HasSoundRegisters session journal transcripts
