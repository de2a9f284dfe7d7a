use Rattle.std.proofs.Common.{sym, subst}
use Rattle.mx_core.specs.declared.elements.Event.TheVariants.{Seen}
use Rattle.mx_transcript.specs.declared.transcripts.Event2.TheVariants.{Core}
use Rattle.mx_line.proofs.TakenLaws.{walking_taken, filling_taken}
use Rattle.mx_line.specs.AtWork.{IsTaken}
use Rattle.mx_line.specs.declared.at_work.LineAtWork.TheVariants.{At}
use Rattle.mx_line.specs.declared.operands.Progress.{Progress}
use Rattle.mx_line.proofs.TakenLaws.{walking_met, filling_met, linking_met, waiting_met}
use Rattle.mx_line.specs.AtWork.{IsMet}
use Rattle.mx_line.proofs.at_work.seen_at.Goals as goal

pub returns-in-Before-clause-taken : goal.returns-in-Before-clause-taken
returns-in-Before-clause-taken c = λ setting on.
    subst (λ (r : Progress). IsTaken c.args.control.now c.args.line.now setting (Core (Seen c.args.element.now)) (At r) c.first_seen.result)
    (sym c.in-Before.is) (c.first_seen.ensures.taken setting on)

pub returns-in-Walking-clause-taken : goal.returns-in-Walking-clause-taken
returns-in-Walking-clause-taken c = λ setting on.
    subst (λ (r : Progress). IsTaken c.args.control.now c.args.line.now setting (Core (Seen c.args.element.now)) (At r) c.led_by.result)
    (sym c.in-Walking.is)
    (walking_taken c.args.control.now c.args.line.now c.in-Walking.walk c.args.element.now c.args.desc.now c.led_by.result
    c.led_by.ensures.leads setting on)

pub returns-in-Filling-clause-taken : goal.returns-in-Filling-clause-taken
returns-in-Filling-clause-taken c = λ setting on.
    subst (λ (r : Progress). IsTaken c.args.control.now c.args.line.now setting (Core (Seen c.args.element.now)) (At r) c.stored.result)
    (sym c.in-Filling.is)
    (filling_taken c.args.control.now c.args.line.now c.in-Filling.fill c.args.element.now c.args.desc.now c.stored.result
    c.stored.ensures.made setting on)

pub returns-in-Walking-clause-known : goal.returns-in-Walking-clause-known
returns-in-Walking-clause-known c = λ met.
    let m = subst (λ (r : Progress). IsMet c.args.control.now c.args.line.now (At r) c.args.element.now c.args.desc.now) c.in-Walking.is met in
    c.led_by.ensures.known m.asked
    (walking_met c.args.control.now c.args.line.now c.in-Walking.walk c.args.element.now c.args.desc.now m) m.right

pub returns-in-Filling-clause-known : goal.returns-in-Filling-clause-known
returns-in-Filling-clause-known c = λ met.
    absurd (filling_met c.args.control.now c.args.line.now c.in-Filling.fill c.args.element.now c.args.desc.now
    (subst (λ (r : Progress). IsMet c.args.control.now c.args.line.now (At r) c.args.element.now c.args.desc.now) c.in-Filling.is met))

pub returns-in-AtLink-clause-known : goal.returns-in-AtLink-clause-known
returns-in-AtLink-clause-known c = λ met.
    linking_met c.args.control.now c.args.line.now c.in-AtLink.field-0 c.args.element.now c.args.desc.now
    (subst (λ (r : Progress). IsMet c.args.control.now c.args.line.now (At r) c.args.element.now c.args.desc.now) c.in-AtLink.is met)

pub returns-in-Waiting-clause-known : goal.returns-in-Waiting-clause-known
returns-in-Waiting-clause-known c = λ met.
    waiting_met c.args.control.now c.args.line.now c.args.element.now c.args.desc.now
    (subst (λ (r : Progress). IsMet c.args.control.now c.args.line.now (At r) c.args.element.now c.args.desc.now) c.in-Waiting.is met)

pub returns-in-Before-clause-known : goal.returns-in-Before-clause-known
returns-in-Before-clause-known c = λ met.
    c.first_seen.ensures.known
    (subst (λ (r : Progress). IsMet c.args.control.now c.args.line.now (At r) c.args.element.now c.args.desc.now) c.in-Before.is met)
