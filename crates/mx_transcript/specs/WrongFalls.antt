-- Falls that no gate lets: a segment with two gates, entered from rings 5 and 6 into ring 4; and two return
-- gates, the top one from ring 5 into ring 4.
use Rattle.std.specs.Prelude.{ℕ, true, false, List, [], ◌∷◌}
use Rattle.mx_sdw.specs.Descriptors.{Descriptor, segment_desc}
use Rattle.mx_sdw.specs.declared.denials.Denial.TheVariants.{BadReturn}
use Rattle.mx_upcall.specs.Control.{Control}
use Rattle.mx_upcall.specs.Gates.{ReturnGate}
use Rattle.mx_core.specs.declared.elements.Element.{Element}
use Rattle.mx_core.specs.declared.elements.Event.TheVariants.{Seen}
use Rattle.mx_core.specs.declared.elements.Kind.TheVariants as kind
use Rattle.mx_core.specs.declared.elements.Outcome.TheVariants as outcome
use Rattle.mx_transcript.specs.declared.transcripts.Event2.{Event2}
use Rattle.mx_transcript.specs.declared.transcripts.Event2.TheVariants.{Core, Entry}
use Rattle.mx_transcript.specs.Falls.{IsGateCall, IsGateReturn}
use Rattle.mx_transcript.specs.PointerLines.{pointer}
use Rattle.mx_transcript.specs.UpwardLines.{above, back, with_gates}

abbrev pub gated : Element → Descriptor
gated e = segment_desc (record { r1 = 2; r2 = 4; r3 = 6 }) true true false 2 5 64

-- a right call of gate 1, from ring 5
abbrev pub call : Element
call = record { kind = kind.Call; segno = 9; word = 1; ring = 5; point = 3; outcome = outcome.Entered 4 }

abbrev pub NeverFalls : List Event2 → ℕ → Type 0
NeverFalls events ring = IsGateCall gated events ring → ⊥

pub record WrongFalls : Type 0 where
  pub right_call : IsGateCall gated (Core (Seen call) ∷ []) 4
  -- by a return
  pub by_return : NeverFalls (Core (Seen (record call { kind = kind.Return })) ∷ []) 4
  -- at a word that is no gate
  pub no_gate : NeverFalls (Core (Seen (record call { word = 2 })) ∷ []) 4
  -- into a ring below the second bracket
  pub too_low : NeverFalls (Core (Seen (record call { outcome = outcome.Entered 3 })) ∷ []) 3
  -- from above the third bracket
  pub from_outside : NeverFalls (Core (Seen (record call { ring = 7 })) ∷ []) 4
  -- by an entry after the call
  pub after_call : NeverFalls (Core (Seen call) ∷ Entry 3 ∷ []) 4

-- a right return through the top one of two gates: from ring 5 into ring 4
abbrev pub top : ReturnGate
top = record {
  lower = 4;
  upper = 5;
  procedure = pointer 4 10 0;
  pr0 = pointer 4 4 0;
}

abbrev pub under : ReturnGate
under = record top { lower = 3; upper = 4 }

abbrev pub before : Control
before = with_gates above (top ∷ under ∷ [])

abbrev pub after : Control
after = with_gates back (under ∷ [])

abbrev pub return : Element
return = record { kind = kind.Return; segno = 10; word = 0; ring = 4; point = 3; outcome = outcome.Entered 4 }

abbrev pub NeverReturns : Control → List Event2 → Type 0
NeverReturns now events = IsGateReturn before now events → ⊥

pub record WrongWaysBack : Type 0 where
  pub right_return : IsGateReturn before after (Core (Seen return) ∷ [])
  -- from no gate
  pub no_gate : IsGateReturn (with_gates above []) (with_gates back []) (Core (Seen return) ∷ []) → ⊥
  -- it pops nothing, or both gates
  pub pops_nothing : NeverReturns (with_gates back (top ∷ under ∷ [])) (Core (Seen return) ∷ [])
  pub pops_both : NeverReturns (with_gates back []) (Core (Seen return) ∷ [])
  -- into another ring than the gate's lower one, as printed or in the registers
  pub enters_other : NeverReturns after (Core (Seen (record return { outcome = outcome.Entered 3 })) ∷ [])
  pub other_ring : NeverReturns (with_gates (record back { ring = 3 }) (under ∷ [])) (Core (Seen return) ∷ [])
  -- by a call, or by a return that was denied
  pub by_call : NeverReturns after (Core (Seen (record return { kind = kind.Call })) ∷ [])
  pub denied : NeverReturns after (Core (Seen (record return { outcome = outcome.Denied BadReturn })) ∷ [])
  -- by an entry after the return
  pub after_return : NeverReturns after (Core (Seen return) ∷ Entry 3 ∷ [])
