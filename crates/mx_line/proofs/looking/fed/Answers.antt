use Rattle.std.proofs.Common.{refl}
use Rattle.mx_line.proofs.OperandLaws.{fed_walk}
use Rattle.mx_line.proofs.looking.fed.Goals as goal

pub returns-in-Ok-clause-comes : goal.returns-in-Ok-clause-comes
returns-in-Ok-clause-comes c = λ yes seen j writer stamp come came first.
    fed_walk c.args.control.now c.args.line.now c.args.walk.now c.requires.wants.0 c.args.value c.args.r1 c.requires.wants.1
    (c.in-Ok.ensures.taken.0 refl) seen j writer stamp come came first _ c.in-Ok.ensures.ok
