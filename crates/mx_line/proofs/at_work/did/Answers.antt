use Rattle.std.proofs.Common.{sym, subst}
use Rattle.mx_core.specs.declared.elements.Outcome.{Outcome}
use Rattle.mx_transcript.specs.Targets.{after_target}
use Rattle.mx_line.specs.AtWork.{IsKnown, IsSaid}
use Rattle.mx_line.proofs.DirectLaws.{ending_said, left_known}
use Rattle.std.proofs.Common.{◌≡◌, ℕ}
use Rattle.mx_core.specs.declared.elements.Outcome.TheVariants.{Read, Written, Entered, Denied}
use Rattle.mx_sdw.specs.declared.denials.Denial.{Denial}
use Rattle.mx_line.proofs.TakenLaws.{judged_gives, reader, writer, mover}
use Rattle.mx_line.proofs.at_work.did.Goals as goal

pub returns-in-Read-clause-leads : goal.returns-in-Read-clause-leads
returns-in-Read-clause-leads c = λ asked at judged.
    subst (λ (o : Outcome). IsSaid c.args.control.now
    (after_target c.args.control.now c.args.line.now c.args.target.now c.args.desc.now o) c.left.result) (sym c.in-Read.is)
    (subst (IsSaid c.args.control.now (after_target c.args.control.now c.args.line.now c.args.target.now c.args.desc.now
    (Read c.in-Read.value c.in-Read.writer c.in-Read.stamp))) (sym c.left.ensures)
    (ending_said c.args.control.now _ c.read.result
    (c.read.ensures.said c.args.control.now c.args.target.now c.args.desc.now c.in-Read.writer c.in-Read.stamp)))

pub returns-in-Written-clause-leads : goal.returns-in-Written-clause-leads
returns-in-Written-clause-leads c = λ asked at judged.
    subst (λ (o : Outcome). IsSaid c.args.control.now
    (after_target c.args.control.now c.args.line.now c.args.target.now c.args.desc.now o) c.left-in-Written.result) (sym c.in-Written.is)
    (subst (IsSaid c.args.control.now (after_target c.args.control.now c.args.line.now c.args.target.now c.args.desc.now
    (Written c.in-Written.value))) (sym c.left-in-Written.ensures)
    (ending_said c.args.control.now _ c.written.result
    (c.written.ensures.said c.args.control.now c.args.target.now c.args.desc.now c.in-Written.value)))

read_granted : (value writer stamp : ℕ) (denial : Denial) → Read value writer stamp ≡ Denied denial → ⊥
read_granted value writer stamp denial e = cc

written_granted : (value : ℕ) (denial : Denial) → Written value ≡ Denied denial → ⊥
written_granted value denial e = cc

entered_granted : (ring : ℕ) (denial : Denial) → Entered ring ≡ Denied denial → ⊥
entered_granted ring denial e = cc

pub returns-in-Read-clause-known : goal.returns-in-Read-clause-known
returns-in-Read-clause-known c = λ asked at right.
    subst IsKnown (sym c.left.ensures)
    (left_known c.args.control.now c.read.result (c.read.ensures.known (reader c.args.control.now c.args.line.now c.args.target.now asked c.args.desc.now c.in-Read.value c.in-Read.writer
    c.in-Read.stamp at (judged_gives asked c.args.desc.now c.args.element.now (Read c.in-Read.value c.in-Read.writer c.in-Read.stamp) right
    c.in-Read.is (read_granted c.in-Read.value c.in-Read.writer c.in-Read.stamp)))))

pub returns-in-Written-clause-known : goal.returns-in-Written-clause-known
returns-in-Written-clause-known c = λ asked at right.
    subst IsKnown (sym c.left-in-Written.ensures)
    (left_known c.args.control.now c.written.result (c.written.ensures.known (writer c.args.control.now c.args.line.now c.args.target.now asked c.args.desc.now c.in-Written.value at
    (judged_gives asked c.args.desc.now c.args.element.now (Written c.in-Written.value) right c.in-Written.is
    (written_granted c.in-Written.value)))))

pub returns-in-Entered-clause-known : goal.returns-in-Entered-clause-known
returns-in-Entered-clause-known c = λ asked at right.
    c.entered.ensures.known c.in-Entered.ring asked c.args.element.now at right c.in-Entered.is
    (mover c.args.control.now c.args.line.now c.args.target.now asked c.args.desc.now c.in-Entered.ring at
    (judged_gives asked c.args.desc.now c.args.element.now (Entered c.in-Entered.ring) right c.in-Entered.is
    (entered_granted c.in-Entered.ring)))
