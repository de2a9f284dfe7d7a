use Rattle.std.proofs.Common.{rules}
use Rattle.std.proofs.lemmas.List.{drop_all}
use Rattle.mx_judging.proofs.ReferenceLaws.{drop_next}
use Rattle.mx_picture.proofs.BoxLaws.{boxes_begun, box_next, boxes_done}
use Rattle.mx_picture.proofs.pictures.draw_boxes.Goals as goal

pub loop-reference-init : goal.loop-reference-init
loop-reference-init g c = record { up = boxes_begun _ _ _ _; same = search rules }

pub loop-reference-preserved : goal.loop-reference-preserved
loop-reference-preserved g c = record {
  up = box_next _ _ _ _ _ _ _ _ _ _ _ _ c.loop-reference.invariant.up
      (drop_next _ _ _ c.loop-reference-test.true c.reference-item.is) c.in_ok-add_box.ensures
      c.in_ok-send_when_long.ensures.sent;
  same = search rules;
}

pub returns-clause-drawn : goal.returns-clause-drawn
returns-clause-drawn g c =
    boxes_done _ _ _ _ _ _ _ c.loop-reference.invariant.up (drop_all _ _ c.loop-reference-test.false)
