-- The indirect words that a line looks for, one after another.
use Rattle.std.proofs.Common.{◌≡◌, ℕ, ◌<◌, ◌^◌, List, ap, sym, subst}
use Rattle.mx_core.specs.declared.elements.Element.{Element}
use Rattle.mx_core.specs.declared.elements.Event.TheVariants.{Seen}
use Rattle.mx_core.specs.declared.elements.Outcome.TheVariants as outcome
use Rattle.mx_desc.specs.Passes.{HasBasis, PassValue}
use Rattle.mx_effring.specs.Walks.{Reached}
use Rattle.mx_line.specs.AtWork.{IsMet}
use Rattle.mx_line.specs.Looking.{IsLooking, LeadsOn}
use Rattle.mx_line.specs.declared.at_work.LineAtWork.TheVariants.{At}
use Rattle.mx_line.specs.declared.operands.Place.{Place}
use Rattle.mx_line.specs.declared.operands.Progress.TheVariants.{Walking}
use Rattle.mx_line.specs.declared.processes.Process.{Process as LineState}
use Rattle.mx_rule.specs.declared.views.PassView.{PassView}
use Rattle.mx_script.specs.Sessions.{Outline}
use Rattle.mx_script.specs.declared.lines.Line.{Line}
use Rattle.mx_sdw.specs.Admissible.{IsAdmissible}
use Rattle.mx_sdw.specs.Descriptors.{Descriptor}
use Rattle.mx_state.specs.declared.journal.Entry as journaled
use Rattle.mx_transcript.specs.declared.transcripts.Event2.TheVariants.{Core}
use Rattle.mx_process.proofs.JudgedLaws.{WasJudged, asked_by}
use Rattle.mx_process.proofs.TurnLaws.{led_on, looks_so, meets, reading, turned}
use Rattle.mx_process.specs.Processes.{known_of}
use Rattle.mx_process.specs.Turns.{GoesOn, HasEvent, HasTaken, HasTurned, IsAttempting, inside, walking}
use Rattle.mx_process.specs.declared.turns.Turn.{Turn}
use Rattle.mx_process.specs.declared.turns.Turn.TheVariants as turn

-- what is said of the line where its walk stands is said of it where the walk stands still
pub still_met : (state : LineState) (line : Line) (e : Element) (d : Descriptor) (walk after : Reached) → after ≡ walk
    → IsMet state.control line (At (Walking walk)) e d → IsMet state.control line (At (Walking after)) e d
still_met state line e d walk after is = subst (λ (w : Reached). IsMet state.control line (At (Walking w)) e d) (sym is)

pub still_taken : (state new : LineState) (line : Line) (e : Element) (d : Descriptor) (walk after : Reached) (went : Turn) → after ≡ walk
    → HasTaken (walking state after) line e d new went → HasTaken (walking state walk) line e d new went
still_taken state new line e d walk after went is = subst (λ (w : Reached). HasTaken (walking state w) line e d new went) is

-- the word for which the line looks was read, judged on this descriptor
module _ (x : Outline) (setup : List journaled.Entry) (line : Line) (old : LineState) (o o' : PassValue journaled.Entry)
    (walk : Reached) (place : Place) (value : ℕ) (e : Element) (d : Descriptor)
    (a : IsAttempting x setup old line (known_of o)) (looking : IsLooking old.control line old.progress walk place)
    (j : WasJudged place.segno (asked_by (reading place)) value o.view e o'.view) (on : d ≡ j.on.desc) where
  pub read_based : HasBasis o'.view
  read_based = record { on = j.on; is = ap (λ (v : PassView journaled.Entry). v.basis) j.after }

  pub read_admissible : IsAdmissible d
  read_admissible = subst IsAdmissible (sym on) j.admissible

  module _ (short : (word writer stamp : ℕ) → e.outcome ≡ outcome.Read word writer stamp → word < 2 ^ 36) where
    pub read_met : IsMet old.control line (At old.progress) e d
    read_met =
        subst (λ (c : Descriptor). IsMet old.control line (At old.progress) e c) (sym on)
        (meets x setup line old old o o' (reading place) value e a (looks_so x setup old line (known_of o) walk place a looking) j
        (λ w is. absurd cc) short)

    pub read_turned : (new : LineState) (went : Turn) → o'.amount ≡ o.amount → HasTaken old line e d new went
        → HasTurned x setup line old went (inside new o')
    read_turned new went amount taken =
        turned x setup line old new o o' (reading place) value e went d a (looks_so x setup old line (known_of o) walk place a looking) j on
        amount (λ w is. absurd cc) short taken

    pub read_goes : (new : LineState) (onward : Reached) → o'.amount ≡ o.amount → LeadsOn old.control line walk e d onward
        → HasEvent old (Core (Seen e)) (Walking onward) new → GoesOn x setup line old (inside new o')
    read_goes new onward amount leads has = read_turned new turn.More amount (led_on old new line e d walk onward place looking leads has)
