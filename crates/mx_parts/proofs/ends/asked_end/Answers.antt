use Rattle.std.proofs.Common.{sym, subst}
use Rattle.mx_line.specs.AtWork.{meant}
use Rattle.mx_line.specs.declared.asking.Next as asking
use Rattle.mx_parts.specs.Ends.{HasEnd}
use Rattle.mx_parts.proofs.ends.asked_end.Goals as goal

pub returns-in-Calls-clause-end : goal.returns-in-Calls-clause-end
returns-in-Calls-clause-end c = λ setting full.
    subst (λ (next : asking.Next). HasEnd setting c.args.control.now (meant c.args.control.now c.args.line.now next) c.full_end.result)
    (sym c.in-Calls.is) (c.full_end.ensures.end setting full)
