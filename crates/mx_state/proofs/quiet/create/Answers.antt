use Rattle.mx_hier.specs.Who.{caller}
use Rattle.mx_state.proofs.GivenLaws.{create_link_keeps, create_object_next, create_seg_next}
use Rattle.mx_state.proofs.quiet.create.Goals as goal

pub returns-in_ok-given-in-CreateSeg-clause-run : goal.returns-in_ok-given-in-CreateSeg-clause-run
returns-in_ok-given-in-CreateSeg-clause-run c =
    let it = c.in-CreateSeg in
    create_seg_next c.args.hier.now c.create_seg.new.self (caller c.args.who.now) it.path it.words it.brackets c.in_ok-given-in-CreateSeg.given
    c.in_ok-given-in-CreateSeg.ensures.answer c.in_ok-given-in-CreateSeg.ensures.run

pub returns-in_ok-given-in-CreateObject-clause-run : goal.returns-in_ok-given-in-CreateObject-clause-run
returns-in_ok-given-in-CreateObject-clause-run c =
    let it = c.in-CreateObject in
    create_object_next c.args.hier.now c.create_object.new.self (caller c.args.who.now) it.path it.words it.brackets c.map.result.now
    c.in_ok-given-in-CreateObject.given c.in_ok-given-in-CreateObject.ensures.answer c.in_ok-given-in-CreateObject.ensures.run

pub returns-in_ok-create_link-in-CreateLink-clause-run : goal.returns-in_ok-create_link-in-CreateLink-clause-run
returns-in_ok-create_link-in-CreateLink-clause-run c =
    create_link_keeps c.args.hier.now (caller c.args.who.now) c.in-CreateLink.path c.in-CreateLink.target c.create_link.new.self
    c.in_ok-create_link-in-CreateLink.ensures.answer
