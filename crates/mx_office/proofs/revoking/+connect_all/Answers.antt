use Rattle.std.proofs.Common.{◌-◌, List, length, take, drop, refl, sym, subst, rules}
use Rattle.mx_core.specs.declared.changes.Change.{Change}
use Rattle.mx_core.proofs.Lists.{split_up}
use Rattle.mx_rule.specs.Shown.{office_of}
use Rattle.mx_rule.specs.declared.views.SuperView.{SuperView}
use Rattle.mx_office.specs.Revoking.{MayConnectAll}
use Rattle.mx_office.proofs.Answering.{connect_rest}
use Rattle.mx_office.proofs.revoking.+connect_all.Goals as goal

pub connect-requires-clause-may : goal.connect-requires-clause-may
connect-requires-clause-may g t c =
    let a = c.change-item.result in
    subst (λ (l : List Change). MayConnectAll (office_of c.args.chief.now) l)
    (split_up c.args.changes.now a c.in-len1-up.len_at_least c.change-item.is) c.requires.may 0 a refl

pub connect_all-requires : goal.connect_all-requires
connect_all-requires g t c κs within =
    let a = c.change-item.result in
    let may = subst (λ (l : List Change). MayConnectAll (office_of c.args.chief.now) l)
    (split_up c.args.changes.now a c.in-len1-up.len_at_least c.change-item.is) c.requires.may in
    let rest = subst (λ (v : SuperView g.row.E.Denot). MayConnectAll (office_of v)
    (take (length c.args.changes.now - 1) (drop 1 c.args.changes.now))) (sym c.connect.ensures)
    (connect_rest c.args.chief.now a (take (length c.args.changes.now - 1) (drop 1 c.args.changes.now)) may) in
    (search rules, (search rules, (search rules, (search rules, (search rules, λ i b at. rest i b at)))))
