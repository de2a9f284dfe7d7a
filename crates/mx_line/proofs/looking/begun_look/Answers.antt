use Rattle.std.proofs.Common.{sym, ◌∙◌, ap, subst}
use Rattle.std.specs.Option.{option_map}
use Rattle.mx_effring.specs.Walks.{reached}
use Rattle.mx_line.proofs.StepLaws.{begun_looks}
use Rattle.mx_line.specs.Operands.{IsGoodWalk}
use Rattle.mx_transcript.specs.Operands.{walk_of}
use Rattle.mx_upcall.specs.Control.{Control}
use Rattle.mx_line.proofs.looking.begun_look.Goals as goal

pub returns-in-Word : goal.returns-in-Word
returns-in-Word c =
    begun_looks c.args.control.now c.args.line.now c.in-Some.walk
    (record { segno = c.in-Word.segno; word = c.in-Word.word; ring = c.in-Word.ring })
    (subst (λ (k : Control). IsGoodWalk k.registers c.in-Some.walk) c.control.view_is c.in-Some.ensures.good)
    (sym c.want.ensures.value ∙ c.in-Word.is) c.in-Some.ensures.some
    (ap (λ (k : Control). option_map reached (walk_of k.registers c.args.line.now)) (sym c.control.view_is) ∙ sym c.walk_of.ensures.walk ∙ c.in-Some.is)
