use Rattle.std.proofs.Common.{◌-◌}
use Rattle.mx_line.proofs.TakenLaws.{over_within}
use Rattle.std.proofs.Common.{◌≡◌, sym, ◌∙◌, ap, subst}
use Rattle.mx_effring.specs.Walks.{wanted_at}
use Rattle.mx_effring.specs.declared.walks.Want.TheVariants.{Word, Done}
use Rattle.mx_line.specs.declared.operands.Place.{Place}
use Rattle.mx_transcript.specs.Attempts.{wants}
use Rattle.mx_transcript.specs.Elements.{IsJudged}
use Rattle.mx_transcript.specs.Next.{Reference}
use Rattle.mx_line.proofs.TakenLaws.{same_asked}
use Rattle.mx_line.specs.Looks.{looks}
use Rattle.mx_line.proofs.at_work.led_by.Goals as goal

pub returns-in-Word-clause-leads : goal.returns-in-Word-clause-leads
returns-in-Word-clause-leads c = λ seen asked walked wants judged. c.word_read.ensures.leads seen walked

pub returns-in-Done-clause-nearer : goal.returns-in-Done-clause-nearer
returns-in-Done-clause-nearer c = over_within (9 - c.args.walk.count) c.did.result c.did.ensures.over

pub returns-in-Word-clause-known : goal.returns-in-Word-clause-known
returns-in-Word-clause-known c = λ asked at right.
    let place : Place = record { segno = c.in-Word.segno; word = c.in-Word.word; ring = c.in-Word.ring } in
    let is : wanted_at c.args.walk ≡ Word c.in-Word.segno c.in-Word.word c.in-Word.ring = sym c.want.ensures.value ∙ c.in-Word.is in
    c.word_read.ensures.known (subst (λ (r : Reference). IsJudged r c.args.desc.now c.args.element.now)
    (sym (same_asked (looks place) asked (sym (ap (wants c.args.control.now c.args.line.now) is) ∙ at))) right)

pub returns-in-Done-clause-known : goal.returns-in-Done-clause-known
returns-in-Done-clause-known c = λ asked at right.
    let is : wanted_at c.args.walk ≡ Done c.in-Done.target = sym c.want.ensures.value ∙ c.in-Done.is in
    c.did.ensures.known asked (sym (ap (wants c.args.control.now c.args.line.now) is) ∙ at) right
