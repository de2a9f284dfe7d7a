use Rattle.std.proofs.Common.{[], ◌∷◌, ◌++◌, refl}
use Rattle.mx_line.proofs.OperandLaws.{fed_walk}
use Rattle.mx_line.proofs.operands.feed.Goals as goal

pub returns-in-Ok-clause-onward : goal.returns-in-Ok-clause-onward
returns-in-Ok-clause-onward c = λ seen j writer stamp is came first.
    c.led.ensures.onward (seen ++ j ∷ [])
    (fed_walk c.args.control.now c.args.line.now c.args.walk c.args.place c.args.value c.args.r1 c.requires.wants
    (c.in-Ok.ensures.taken.0 refl) seen j writer stamp is came first _ c.in-Ok.ensures.ok)
