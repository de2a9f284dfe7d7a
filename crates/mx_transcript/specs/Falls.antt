-- Gated falls: the current ring falls only through gates, by a call at a gate of a segment or by a return through the top
-- return gate. And the registers on which that rests.
use Rattle.std.specs.Prelude.{◌≡◌, ◌⊎◌, ℕ, ◌<◌, ◌≤◌, List, [], ◌∷◌, ◌++◌}
use Rattle.mx_sdw.specs.Descriptors.{Descriptor}
use Rattle.mx_call.specs.Registers.{IsSound}
use Rattle.mx_upcall.specs.Control.{Control}
use Rattle.mx_upcall.specs.Gates.{ReturnGate}
use Rattle.mx_script.specs.declared.lines.Line.{Line}
use Rattle.mx_core.specs.declared.elements.Element.{Element}
use Rattle.mx_core.specs.declared.elements.Event.TheVariants.{Seen}
use Rattle.mx_core.specs.declared.elements.Kind.TheVariants.{Call, Return}
use Rattle.mx_core.specs.declared.elements.Outcome.TheVariants.{Entered}
use Rattle.mx_transcript.specs.declared.transcripts.Event2.{Event2}
use Rattle.mx_transcript.specs.declared.transcripts.Event2.TheVariants.{Core}
use Rattle.mx_transcript.specs.declared.transcripts.Result2.{Result2}
use Rattle.mx_transcript.specs.declared.transcripts.Result2.TheVariants as result
use Rattle.mx_transcript.specs.Parts.{AreDone}
use Rattle.mx_transcript.specs.Settings.{Setting}
use Rattle.mx_transcript.specs.Transcripts.{Step}

-- the current ring after a line, as its result prints it
abbrev pub printed_ring : ℕ → Result2 → ℕ
printed_ring ring (result.Moved entered procedure) = entered
printed_ring ring _ = ring

-- the last of these events is a granted call at a gate: one of the segment's first words, entered from above the
-- second bracket up to the third, into the ring of the second
pub record IsGateCall (descriptor : Element → Descriptor) (events : List Event2) (ring : ℕ) : Type 0 where
  pub before : List Event2
  pub call : Element
  pub last : events ≡ before ++ Core (Seen call) ∷ []
  pub kind : call.kind ≡ Call
  pub granted : call.outcome ≡ Entered ring
  pub gate : call.word < (descriptor call).gate
  pub above : (descriptor call).brackets.r2 < call.ring
  pub within : call.ring ≤ (descriptor call).brackets.r3
  pub into : ring ≡ (descriptor call).brackets.r2

-- the last of these events is a granted return through the top return gate, which goes, into its lower ring
pub record IsGateReturn (before after : Control) (events : List Event2) : Type 0 where
  pub gate : ReturnGate
  pub others : List ReturnGate
  pub top : before.gates.gates ≡ gate ∷ others
  pub popped : after.gates.gates ≡ others
  pub into : after.registers.ring ≡ gate.lower
  pub earlier : List Event2
  pub return : Element
  pub last : events ≡ earlier ++ Core (Seen return) ∷ []
  pub kind : return.kind ≡ Return
  pub granted : return.outcome ≡ Entered gate.lower

-- what a line makes of the ring: its result prints the ring after it, and a lower one than before comes by one or the other
pub record IsGated (descriptor : Element → Descriptor) (before : Control) (step : Step) (after : Control) : Type 0 where
  pub printed : printed_ring before.registers.ring step.2 ≡ after.registers.ring
  pub fall : after.registers.ring < before.registers.ring
      → IsGateCall descriptor step.1 after.registers.ring ⊎ IsGateReturn before after step.1

-- this line of a part, after those that were done before it: from the registers and gates that they left it came to others,
-- and it is gated
pub record IsGatedLine (setting : Setting) (start : Control) (lines : List (ℕ × Line)) (done : List Step)
    (step : Step) : Type 0 where
  pub between : List (ℕ × Line)
  pub before : Control
  pub so_far : AreDone setting start lines done between before
  pub left : List (ℕ × Line)
  pub after : Control
  pub at_work : AreDone setting before between (step ∷ []) left after
  pub gated : IsGated setting.descriptor before step after

-- so it is of each line
abbrev pub AreGated : Setting → Control → List (ℕ × Line) → List Step → Type 0
AreGated setting start lines steps = (done later : List Step) (step : Step) → steps ≡ done ++ step ∷ later
    → IsGatedLine setting start lines done step

-- after any number of lines no pointer register has a ring below the current one
abbrev pub AreSound : Setting → Control → List (ℕ × Line) → List Step → Type 0
AreSound setting start lines steps = (done later : List Step) (left : List (ℕ × Line)) (now : Control)
    → steps ≡ done ++ later → AreDone setting start lines done left now → IsSound now.registers
