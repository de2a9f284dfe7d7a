use Rattle.std.proofs.Common.{sym, subst}
use Rattle.mx_core.specs.declared.elements.Event.{Event}
use Rattle.mx_transcript.specs.Legal.{setting_of}
use Rattle.mx_transcript.specs.declared.transcripts.Event2.TheVariants.{Core}
use Rattle.mx_parts.specs.Answers.{IsAnswered}
use Rattle.mx_parts.proofs.answers.referred.Goals as goal

pub returns-in-Missing : goal.returns-in-Missing
returns-in-Missing c =
    let setting = setting_of c.args._setting.now.session.now c.args._setting.now.journal.now c.args._setting.now.process in
    subst (λ (event : Event). IsAnswered setting c.args.control.now c.args.line.now (Core event) c.args.work c.missed.result)
    (sym c.in-Missing.is) (c.missed.ensures setting c.in-Missing.segno c.in-Missing.by)
