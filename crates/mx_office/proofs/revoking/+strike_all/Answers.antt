use Rattle.std.proofs.Common.{◌-◌, List, length, take, drop, refl, sym, subst, rules}
use Rattle.mx_core.specs.declared.changes.Change.{Change}
use Rattle.mx_core.proofs.Lists.{split_up}
use Rattle.mx_rule.specs.Shown.{office_of}
use Rattle.mx_rule.specs.declared.views.SuperView.{SuperView}
use Rattle.mx_office.specs.Revoking.{MayStrikeAll}
use Rattle.mx_office.proofs.Answering.{strike_rest}
use Rattle.mx_office.proofs.revoking.+strike_all.Goals as goal

pub strike-requires-clause-may : goal.strike-requires-clause-may
strike-requires-clause-may g t c =
    let a = c.change-item.result in
    subst (λ (l : List Change). MayStrikeAll (office_of c.args.chief.now) l)
    (split_up c.args.changes.now a c.in-len1-up.len_at_least c.change-item.is) c.requires.may 0 a refl

pub strike_all-requires : goal.strike_all-requires
strike_all-requires g t c κs within =
    let a = c.change-item.result in
    let may = subst (λ (l : List Change). MayStrikeAll (office_of c.args.chief.now) l)
    (split_up c.args.changes.now a c.in-len1-up.len_at_least c.change-item.is) c.requires.may in
    let rest = subst (λ (v : SuperView g.row.E.Denot). MayStrikeAll (office_of v)
    (take (length c.args.changes.now - 1) (drop 1 c.args.changes.now))) (sym c.strike.ensures)
    (strike_rest c.args.chief.now a (take (length c.args.changes.now - 1) (drop 1 c.args.changes.now)) may) in
    (search rules, (search rules, (search rules, (search rules, (search rules, λ i b at. rest i b at)))))
