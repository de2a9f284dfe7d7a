-- A call or return that is granted at its first reference: its process goes on so.
use Rattle.std.proofs.Common.{◌≡◌, ℕ, ◌≤◌, Bool, true, false, if◌then◌else◌, Option, Some, None, IfSome, Result, Ok, Err, IsOk, refl, sym, ◌∙◌, ap, subst}
use Rattle.std.proofs.lemmas.Bool.{ltb-true}
use Rattle.std.specs.Prelude.{nat_lt}
use Rattle.mx_call.specs.Transfers.{called, returned}
use Rattle.mx_core.specs.declared.elements.Element.{Element}
use Rattle.mx_core.specs.declared.elements.Outcome.TheVariants.{Entered, Denied}
use Rattle.mx_effring.specs.declared.walks.Want.TheVariants as want
use Rattle.mx_ptr.specs.Pointers.{PointerParts, IsPackable}
use Rattle.mx_script.specs.declared.lines.Line.{Line}
use Rattle.mx_script.specs.declared.lines.Line.TheVariants as line
use Rattle.mx_sdw.specs.Descriptors.{Descriptor}
use Rattle.mx_sdw.specs.Judging.{judgement, ring_after}
use Rattle.mx_sdw.specs.declared.denials.Denial.{Denial}
use Rattle.mx_sdw.specs.declared.descriptors.Cell.{Cell}
use Rattle.mx_sdw.specs.declared.operations.Op.TheVariants as op
use Rattle.mx_transcript.specs.Elements.{IsJudged, Agrees}
use Rattle.mx_transcript.specs.Next.{Reference, Asks, at_place}
use Rattle.mx_transcript.specs.Targets.{after_target, moved}
use Rattle.mx_upcall.proofs.ChangeLaws.{call_packable, granted_up, return_packable}
use Rattle.mx_upcall.specs.Changes.{Fits, changed, keeping}
use Rattle.mx_upcall.specs.Control.{Control, with_registers, calling, after_call, way_down, returning, after_return_through, after_return}
use Rattle.mx_upcall.specs.Gates.{ReturnGate, pushed}
use Rattle.mx_upcall.specs.Soundness.{IsPackableControl}
use Rattle.mx_upcall.specs.Upcalls.{gate_left, upcalled, downreturned}
use Rattle.mx_upcall.specs.declared.controls.Change.{Change}
use Rattle.mx_upcall.specs.declared.controls.GateStep.TheVariants.{Left, Used}
use Rattle.mx_line.proofs.DirectLaws.{Tells, direct_met, direct_taken}
use Rattle.mx_line.proofs.TakenLaws.{same_asked}
use Rattle.mx_line.specs.AtWork.{IsMet, moved_on}
use Rattle.mx_line.specs.Operands.{first_want}
use Rattle.mx_line.specs.Processes.{HasPlainMove, IsGrantedAt, going_at, gone}
use Rattle.mx_line.specs.declared.at_work.LineAtWork.TheVariants as at
use Rattle.mx_line.specs.declared.moves.Going.{Going}
use Rattle.mx_line.specs.declared.moves.Going.TheVariants.{Calls, Returns}
use Rattle.mx_line.specs.declared.operands.Progress.TheVariants.{Before}

-- a reference by which a process goes on was granted
entered_granted : (r : Reference) (d : Descriptor) (e : Element) (ring : ℕ) → IsJudged r d e → e.outcome ≡ Entered ring
    → IsOk (judgement d r.op r.ring r.word)
entered_granted r d e ring right is =
    by_ruling (judgement d r.op r.ring r.word)
    (subst (Agrees r (ring_after d r.op r.ring) (judgement d r.op r.ring r.word)) is right.outcome)
  where
    apart : (denial : Denial) → Entered ring ≡ Denied denial → ⊥
    apart denial e = cc

    by_ruling : (ruled : Result Cell Denial) → Agrees r (ring_after d r.op r.ring) ruled (Entered ring) → IsOk ruled
    by_ruling (Ok cell) agrees = refl
    by_ruling (Err denial) agrees = absurd (apart denial agrees)

-- so it is with the reference for which a line asked at its target
asked_granted : (asked r : Reference) (d : Descriptor) (e : Element) (ring : ℕ) → Asks r ≡ Asks asked → IsJudged asked d e
    → e.outcome ≡ Entered ring → IsOk (judgement d r.op r.ring r.word)
asked_granted asked r d e ring is right entered =
    entered_granted r d e ring (subst (λ (x : Reference). IsJudged x d e) (sym (same_asked r asked is)) right) entered

-- what it makes of the registers and gates is a change
record HasChange (g control : Control) : Type 0 where
  pub after : Change
  pub is : changed g after ≡ control
  pub fits : Fits g.gates after.gates

call_changes : (g : Control) (target : PointerParts) (d : Descriptor) → IsOk (judgement d (calling g target) target.ring target.word)
    → HasChange g (after_call g target d)
call_changes g target d granted = by_test (nat_lt target.ring d.brackets.r1) refl
  where
    by_test : (below : Bool) → nat_lt target.ring d.brackets.r1 ≡ below → HasChange g (if below
        then record { registers = upcalled g.registers target d; gates = pushed g.gates (gate_left g.registers d) }
        else with_registers g (called g.registers target d))
    by_test true is = record {
      after = record { registers = upcalled g.registers target d; gates = Left (gate_left g.registers d) };
      is = refl;
      fits = (granted_up g target d (ltb-true target.ring d.brackets.r1 is) granted).0;
    }
    by_test false is = record { after = keeping (called g.registers target d); is = refl; fits = tt }

return_changes : (g : Control) (target : PointerParts) → HasChange g (after_return g target)
return_changes g target = by_way (way_down g target)
  where
    by_way : (way : Option ReturnGate) → HasChange g (after_return_through way g target)
    by_way None = record { after = keeping (returned g.registers target); is = refl; fits = tt }
    by_way (Some gate) =
        record { after = record { registers = downreturned g.registers gate; gates = Used }; is = refl; fits = tt }

-- so its line ends by its first reference
moves_so : (g : Control) (l : Line) (target : PointerParts) (e : Element) (d : Descriptor) (ring : ℕ) (going : Going)
    → first_want g.registers l ≡ Some (want.Done target) → e.outcome ≡ Entered ring
    → after_target g l target d (Entered ring) ≡ moved (gone g going d) → IsGrantedAt g going d → HasChange g (gone g going d)
    → IsPackableControl (gone g going d) → HasPlainMove g l Before e d going
moves_so g l target e d ring going is entered said granted change packable = record {
  granted = granted;
  after = change.after;
  is = change.is;
  taken = direct_taken g l target e d (moved_on change.after) is tells;
  good = record { fits = change.fits; packable = subst IsPackableControl (sym change.is) packable };
}
  where
    tells : Tells g l target e d (moved_on change.after)
    tells asked at right = ap (after_target g l target d) entered ∙ said ∙ ap moved (sym change.is)

pub moves_first : (g : Control) (l : Line) (target : PointerParts) (e : Element) (d : Descriptor) (ring : ℕ)
    → first_want g.registers l ≡ Some (want.Done target) → e.outcome ≡ Entered ring → IsMet g l (at.At Before) e d
    → IsPackableControl g → IsPackable target → d.brackets.r1 ≤ 7 → IfSome (going_at l target) (HasPlainMove g l Before e d)
moves_first g (line.Call operand) target e d ring is entered m packable there low =
    let granted = asked_granted m.asked (at_place (calling g target) target) d e ring (direct_met g (line.Call operand) target e d is m) m.right entered in
    moves_so g (line.Call operand) target e d ring (Calls target) is entered refl granted (call_changes g target d granted)
    (call_packable g target d packable there low)
moves_first g (line.Return operand) target e d ring is entered m packable there low =
    let granted = asked_granted m.asked (at_place op.Return (returning g target)) d e ring (direct_met g (line.Return operand) target e d is m) m.right entered in
    moves_so g (line.Return operand) target e d ring (Returns target) is entered refl granted (return_changes g target)
    (return_packable g target packable there)
moves_first g (line.Ask request) target e d ring is entered m packable there low = tt
moves_first g (line.Set word) target e d ring is entered m packable there low = tt
moves_first g (line.Epp n operand) target e d ring is entered m packable there low = tt
moves_first g (line.Lda operand) target e d ring is entered m packable there low = tt
moves_first g (line.Sta operand) target e d ring is entered m packable there low = tt
moves_first g (line.Spri n operand) target e d ring is entered m packable there low = tt
moves_first g line.Fetch target e d ring is entered m packable there low = tt
