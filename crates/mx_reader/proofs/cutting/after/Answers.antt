use Rattle.std.proofs.Common.{◌∙◌, sym, arith}
use Rattle.mx_reader.proofs.FrontLaws.{all_along, none_along, one_along}
use Rattle.mx_reader.proofs.cutting.after.Goals as goal

pub returns-then-front-i : goal.returns-then-front-i
returns-then-front-i c =
    sym c.loop-i.invariant ∙ none_along c.args.front.now c.args.text.now c.loop-i.i c.loop-i-test.true c.if-text-front.false c.if-front-i.true

pub loop-i-preserved : goal.loop-i-preserved
loop-i-preserved c =
    one_along c.args.front.now c.args.text.now c.loop-i.i c.loop-i-test.true c.if-text-front.false c.if-front-i.false ∙ c.loop-i.invariant

pub returns : goal.returns
returns c =
    sym c.loop-i.invariant
    ∙ all_along c.args.front.now c.args.text.now c.loop-i.i (omega (arith, c.loop-i-test.false, c.loop-i.auto.i-end)) c.if-text-front.false
