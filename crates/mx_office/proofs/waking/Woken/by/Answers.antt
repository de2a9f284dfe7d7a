use Rattle.std.proofs.Common.{sym, subst}
use Rattle.mx_office.specs.Waking.{WakesAll}
use Rattle.mx_office.specs.declared.waking.Woken.{Woken}
use Rattle.mx_office.proofs.Wakings.{wakes_all}
use Rattle.mx_office.proofs.waking.Woken.by.Goals as goal

pub returns-clause-wakes : goal.returns-clause-wakes
returns-clause-wakes c = subst (λ (w : Woken). WakesAll w c.args.request.now) (sym c.of.ensures) (wakes_all c.args.request.now)
