use Rattle.std.proofs.Common.{sym, ap, ◌∙◌, subst}
use Rattle.mx_desc.specs.Supers.{IsWaiting}
use Rattle.mx_rule.specs.Shown.{office_of}
use Rattle.mx_rule.specs.declared.views.SuperView.{SuperView}
use Rattle.mx_office.specs.Revoking.{MayAcknowledgeAll, MayConnectAll, connected_views}
use Rattle.mx_office.proofs.Answering.{may_acknowledge, may_answer, may_connect, revoked}
use Rattle.mx_office.proofs.revoking.revoke.Goals as goal

pub connect_all-requires-clause-may : goal.connect_all-requires-clause-may
connect_all-requires-clause-may g c =
    let v = c.args.chief.now in
    subst (λ (u : SuperView g.row.E.Denot). MayConnectAll (office_of u) c.args.changes.now) (sym c.strike_all.ensures)
    (may_connect c.args.changes.now v c.requires.may c.requires.listed)

pub await_all-requires-clause-may : goal.await_all-requires-clause-may
await_all-requires-clause-may g c =
    let v = c.args.chief.now in
    let is = c.connect_all.ensures ∙ ap (connected_views c.args.changes.now) c.strike_all.ensures in
    subst (λ (u : SuperView g.row.E.Denot). MayAcknowledgeAll (office_of u) c.args.changes.now) (sym is)
    (may_acknowledge c.args.changes.now v c.requires.may c.requires.listed)

pub answer-requires-clause-may : goal.answer-requires-clause-may
answer-requires-clause-may g c =
    let v = c.args.chief.now in
    let is = c.connect_all.ensures ∙ ap (connected_views c.args.changes.now) c.strike_all.ensures in
    may_answer c.args.changes.now v c.requires.may c.requires.listed c.await_all.new.chief c.requires.pending
    (subst (λ (u : SuperView g.row.E.Denot). IsWaiting u c.await_all.new.chief) is c.await_all.ensures.waiting)
    c.await_all.ensures.left

pub returns : goal.returns
returns g c =
    let v = c.args.chief.now in
    let is = c.connect_all.ensures ∙ ap (connected_views c.args.changes.now) c.strike_all.ensures in
    c.answer.ensures
    ∙ revoked c.args.changes.now v c.requires.may c.requires.listed c.await_all.new.chief
    (subst (λ (u : SuperView g.row.E.Denot). IsWaiting u c.await_all.new.chief) is c.await_all.ensures.waiting)
