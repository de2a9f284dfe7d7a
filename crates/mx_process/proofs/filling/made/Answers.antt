use Rattle.std.proofs.Common.{sym, subst}
use Rattle.mx_line.specs.Fills.{write_of}
use Rattle.mx_line.specs.declared.fills.Fill.{Fill}
use Rattle.mx_transcript.specs.Elements.{IsJudged}
use Rattle.mx_process.proofs.FillingLaws.{made_leads, onward_at, pointer_leads}
use Rattle.mx_process.specs.Filling.{IsSince, Leads}
use Rattle.mx_process.specs.Processes.{IsFitting}
use Rattle.mx_process.proofs.filling.made.Goals as goal

pub returns-in-Words-clause-leads : goal.returns-in-Words-clause-leads
returns-in-Words-clause-leads c =
    subst (λ (f : Fill). Leads c.args.control.now c.args.line.now f c.args.element.now c.args.desc.now c.args.element.now.outcome c.seen.result)
    (sym c.in-Words.is)
    (made_leads c.args.control.now c.args.line.now _ c.args.element.now c.args.desc.now
    (subst (λ (f : Fill). IsJudged (write_of f) c.args.desc.now c.args.element.now) c.in-Words.is c.requires.right)
    c.seen.result c.requires.written c.seen.ensures.taken)

pub returns-in-Words-clause-onward : goal.returns-in-Words-clause-onward
returns-in-Words-clause-onward c =
    onward_at c.args.control.now c.args.line.now _ (subst IsFitting c.in-Words.is c.requires.fitting) c.args.element.now
    c.args.desc.now c.seen.result
    (subst (λ (f : Fill). IsJudged (write_of f) c.args.desc.now c.args.element.now) c.in-Words.is c.requires.right)
    c.requires.written (subst (IsSince c.args.control.now c.args.line.now) c.in-Words.is c.requires.since)
    (made_leads c.args.control.now c.args.line.now _ c.args.element.now c.args.desc.now
    (subst (λ (f : Fill). IsJudged (write_of f) c.args.desc.now c.args.element.now) c.in-Words.is c.requires.right)
    c.seen.result c.requires.written c.seen.ensures.taken)

pub returns-in-Pointer-clause-leads : goal.returns-in-Pointer-clause-leads
returns-in-Pointer-clause-leads c =
    pointer_leads c.args.control.now c.args.line.now c.args.fill.now _ c.args.element.now c.args.desc.now c.in-Pointer.is
    c.requires.right c.requires.written
