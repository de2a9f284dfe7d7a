use Rattle.std.proofs.Common.{◌+◌, sym}
use Rattle.mx_rule.specs.Notes.{reported_view, reporting_view}
use Rattle.mx_office.proofs.Missing.{locked_mended, settled_by}
use Rattle.mx_office.proofs.serving.settle_for.Goals as goal

pub returns-clause-locked : goal.returns-clause-locked
returns-clause-locked g c s total l =
    let v = c.args.chief.now in
    let u = c.settle_fault.new.chief in
    let w = c.tell.new.chief in
    let told = reported_view (reporting_view c.args.pass.now.view) u in
    locked_mended g.B.Sitting.session g.B.Sitting.setup g.B.Naming.layout s v u w total c.process.result c.args.segno l
    c.settle_fault.ensures.within c.settle_fault.ensures.beyond told.reported (u.made + 1) c.tell.ensures.view c.tell.ensures.words

pub returns-clause-settled : goal.returns-clause-settled
returns-clause-settled g c s total l =
    let v = c.args.chief.now in
    let u = c.settle_fault.new.chief in
    let w = c.tell.new.chief in
    let told = reported_view (reporting_view c.args.pass.now.view) u in
    settled_by g.B.Sitting.session g.B.Sitting.setup g.B.Naming.layout s v u w total c.process.result c.args.segno l
    c.settle_fault.ensures.within c.settle_fault.ensures.beyond told.reported (u.made + 1) c.tell.ensures.view
    c.tell.ensures.words c.args.pass.now c.tell.new.pass c.tell.ensures.grown c.tell.ensures.amount
    (sym c.process.ensures.value) c.tell.ensures.told c.tell.ensures.answered c.tell.ensures.miss
