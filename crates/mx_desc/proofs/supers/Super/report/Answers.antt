use Rattle.std.proofs.Common.{sym, ap, ◌∙◌, slice_get, subst}
use Rattle.mx_rule.specs.Notes.{reported_view, reporting_view}
use Rattle.mx_rule.specs.Seats.{super_of}
use Rattle.mx_rule.specs.declared.layout.Layout.{Layout}
use Rattle.mx_rule.specs.declared.views.ReportView.{ReportView}
use Rattle.mx_rule.specs.declared.views.SuperView.{SuperView}
use Rattle.mx_desc.specs.Supers.{AreKept}
use Rattle.mx_desc.proofs.KeptLaws.{moved}
use Rattle.mx_desc.proofs.supers.Super.report.Goals as goal

pub returns-clause-floor : goal.returns-clause-floor
returns-clause-floor g c =
    let v = super_of c.self.inside.seat.seat.me.0 in
    let is = c.report.ensures.view ∙ ap (λ (u : ReportView). reported_view u v) c.report-report.ensures.report in
    (c.report.ensures.told.reports 0 (reporting_view c.args.pass.now.view)
    (ap (λ (x : SuperView g.row.E.Denot). slice_get x.reported 0) is)).floor

pub returns-clause-miss : goal.returns-clause-miss
returns-clause-miss g c =
    let v = super_of c.self.inside.seat.seat.me.0 in
    let is = c.report.ensures.view ∙ ap (λ (u : ReportView). reported_view u v) c.report-report.ensures.report in
    (c.report.ensures.told.reports 0 (reporting_view c.args.pass.now.view)
    (ap (λ (x : SuperView g.row.E.Denot). slice_get x.reported 0) is)).miss

pub invariant_of-self : goal.invariant_of-self
invariant_of-self g c =
    let v = super_of c.self.inside.seat.seat.me.0 in
    let is = c.self.invariant in
    let view = c.report.ensures.view ∙ ap (λ (u : ReportView). reported_view u v) c.report-report.ensures.report in
    moved _ _ _ _ _ (reported_view (reporting_view c.args.pass.now.view) v) _ _ view (record {
      here = c.report.ensures.place ∙ is.here;
      laid = c.report.ensures.layout ∙ is.laid;
      begun = is.begun;
      counted = is.counted;
      kept = subst (λ (y : Layout). AreKept y v c.self.inside.slots.items) (sym c.report.ensures.layout) is.kept;
    })
