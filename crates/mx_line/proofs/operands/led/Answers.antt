use Rattle.std.proofs.Common.{sym, ◌∙◌, ap}
use Rattle.mx_call.specs.Registers.{Registers}
use Rattle.mx_call.specs.Loading.{loaded}
use Rattle.mx_upcall.specs.Control.{Control, with_registers}
use Rattle.mx_transcript.specs.Next.{Ends}
use Rattle.mx_transcript.specs.declared.transcripts.Result2.TheVariants as results
use Rattle.mx_line.proofs.OperandLaws.{led_end}
use Rattle.mx_line.proofs.operands.led.Goals as goal

pub returns-in-Epp-clause-onward : goal.returns-in-Epp-clause-onward
returns-in-Epp-clause-onward c = λ seen is.
    led_end c.args.control.now c.args.line.now c.args.walk c.in-Epp.n c.in-Epp.operand c.in-Done.target c.in-Epp.is
    (sym c.want.ensures.value ∙ c.in-Done.is) seen is
    ∙ ap (λ (k : Control). Ends (results.Pr c.in-Epp.n c.in-Done.target)
    (with_registers c.args.control.now (loaded k.registers c.in-Epp.n c.in-Done.target))) (sym c.control.view_is)
    ∙ ap (λ (r : Registers). Ends (results.Pr c.in-Epp.n c.in-Done.target) (with_registers c.args.control.now r)) (sym c.loaded.ensures.value)
