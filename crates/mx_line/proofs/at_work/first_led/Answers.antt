use Rattle.std.proofs.Common.{sym, ◌∙◌, ap}
use Rattle.std.specs.Option.{option_map}
use Rattle.mx_effring.specs.Walks.{reached}
use Rattle.mx_transcript.specs.Operands.{walk_of}
use Rattle.mx_upcall.specs.Control.{Control}
use Rattle.mx_line.proofs.TakenLaws.{begun_taken, begun_met, unwalked_met}
use Rattle.mx_line.proofs.at_work.first_led.Goals as goal

pub returns-in-Some-clause-taken : goal.returns-in-Some-clause-taken
returns-in-Some-clause-taken c =
    begun_taken c.args.control.now c.args.line.now c.in-Some.walk c.args.element.now c.args.desc.now c.led_by.result
    (ap (λ (k : Control). option_map reached (walk_of k.registers c.args.line.now)) (sym c.control.view_is) ∙ sym c.walk_of.ensures.walk ∙ c.in-Some.is) c.led_by.ensures.leads

pub returns-in-Some-clause-known : goal.returns-in-Some-clause-known
returns-in-Some-clause-known c = λ met.
    c.led_by.ensures.known met.asked
    (begun_met c.args.control.now c.args.line.now c.in-Some.walk c.args.element.now c.args.desc.now
    (ap (λ (k : Control). option_map reached (walk_of k.registers c.args.line.now)) (sym c.control.view_is) ∙ sym c.walk_of.ensures.walk ∙ c.in-Some.is) met)
    met.right

pub returns-in-None-clause-known : goal.returns-in-None-clause-known
returns-in-None-clause-known c = λ met.
    unwalked_met c.args.control.now c.args.line.now c.args.element.now c.args.desc.now
    (ap (λ (k : Control). option_map reached (walk_of k.registers c.args.line.now)) (sym c.control.view_is) ∙ sym c.walk_of.ensures.walk ∙ c.in-None.is) met
