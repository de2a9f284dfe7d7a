use Rattle.mx_hier.specs.Who.{caller}
use Rattle.mx_state.proofs.GivenLaws.{create_link_keeps, create_object_next, create_seg_next}
use Rattle.mx_fresh.proofs.serving.create.Goals as goal

pub returns-in_ok-given-in-CreateSeg-clause-runs : goal.returns-in_ok-given-in-CreateSeg-clause-runs
returns-in_ok-given-in-CreateSeg-clause-runs c =
    let it = c.in-CreateSeg in
    rw c.given.ensures
    (create_seg_next c.args.hierarchy.now c.create_seg.new.self (caller c.args.who.now) it.path it.words it.brackets c.in_ok-given-in-CreateSeg.given
    c.in_ok-given-in-CreateSeg.ensures.answer c.in_ok-given-in-CreateSeg.ensures.run)

pub returns-in_ok-given-in-CreateObject-clause-runs : goal.returns-in_ok-given-in-CreateObject-clause-runs
returns-in_ok-given-in-CreateObject-clause-runs c =
    let it = c.in-CreateObject in
    rw c.given-in-CreateObject.ensures
    (create_object_next c.args.hierarchy.now c.create_object.new.self (caller c.args.who.now) it.path it.words it.brackets c.map.result.now
    c.in_ok-given-in-CreateObject.given c.in_ok-given-in-CreateObject.ensures.answer c.in_ok-given-in-CreateObject.ensures.run)

pub returns-in_ok-create_link-in-CreateLink-clause-runs : goal.returns-in_ok-create_link-in-CreateLink-clause-runs
returns-in_ok-create_link-in-CreateLink-clause-runs c =
    rw c.none-in-CreateLink.ensures
    (create_link_keeps c.args.hierarchy.now (caller c.args.who.now) c.in-CreateLink.path c.in-CreateLink.target c.create_link.new.self
    c.in_ok-create_link-in-CreateLink.ensures.answer)
