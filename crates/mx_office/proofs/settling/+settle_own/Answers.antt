use Rattle.std.proofs.Common.{◌-◌, List, length, take, drop, refl, sym, subst, rules}
use Rattle.mx_core.specs.declared.changes.Change.{Change}
use Rattle.mx_core.proofs.Lists.{split_up}
use Rattle.mx_rule.specs.declared.views.SuperView.{SuperView}
use Rattle.mx_office.specs.Settling.{AreStruckLast, ArePairsOnce}
use Rattle.mx_office.proofs.Settles.{once_rest, settle_rest}
use Rattle.mx_office.proofs.settling.+settle_own.Goals as goal

pub settle_one-requires-clause-may : goal.settle_one-requires-clause-may
settle_one-requires-clause-may g t c =
    let a = c.change-item.result in
    subst (λ (l : List Change). AreStruckLast g.B.Naming.layout c.args.chief.now c.args.process l)
    (split_up c.args.changes.now a c.in-len1-up.len_at_least c.change-item.is) c.requires.may 0 a refl

pub settle_own-requires : goal.settle_own-requires
settle_own-requires g t c κs within =
    let a = c.change-item.result in
    let v = c.args.chief.now in
    let y = g.B.Naming.layout in
    let cs = take (length c.args.changes.now - 1) (drop 1 c.args.changes.now) in
    let is = split_up c.args.changes.now a c.in-len1-up.len_at_least c.change-item.is in
    let may = subst (λ (l : List Change). AreStruckLast y v c.args.process l) is c.requires.may in
    let once = subst ArePairsOnce is c.requires.once in
    let rest = subst (λ (u : SuperView g.row.E.Denot). AreStruckLast y u c.args.process cs) (sym c.settle_one.ensures)
    (settle_rest y v c.args.process a cs may once) in
    (search rules, (search rules, (search rules, (search rules, (search rules, (λ i b at. rest i b at, once_rest a cs once))))))
