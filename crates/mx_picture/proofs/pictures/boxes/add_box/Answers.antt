use Rattle.std.proofs.Common.{codes}
use Rattle.std.proofs.lemmas.Result.{on_ok_weaker}
use Rattle.mx_show.proofs.LinesLaws.{put_last}
use Rattle.mx_picture.proofs.BoxLaws.{box_behind}
use Rattle.mx_picture.proofs.pictures.boxes.add_box.Goals as goal

pub returns : goal.returns
returns c =
    on_ok_weaker c.extend_from_slice-2.result
    (box_behind c.args.layout.now c.args.placed.now _ _ _ _ _ (rw c.lane-lane.ensures at c.in_ok-add_head.ensures)
    c.in_ok-extend_from_slice.ensures.items)
    (put_last c.extend_from_slice-2.result c.extend_from_slice-2.new.self.items c.extend_from_slice.new.self.items (codes "</g>\n")
    c.extend_from_slice-2.ensures.items)
