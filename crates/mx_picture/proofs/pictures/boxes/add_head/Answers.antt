use Rattle.std.proofs.Common.{codes}
use Rattle.std.proofs.lemmas.Result.{on_ok_weaker}
use Rattle.mx_show.proofs.LinesLaws.{put_last}
use Rattle.mx_picture.proofs.BoxLaws.{head_put}
use Rattle.mx_picture.proofs.pictures.boxes.add_head.Goals as goal

pub returns : goal.returns
returns c =
    on_ok_weaker c.extend_from_slice.result
    (head_put c.args.placed.now c.args.top _ _ _ _ _ _ _ _ _ (rw c.from-process.ensures at c.in_ok-add_labelled.ensures)
    c.in_ok-add_labelled-2.ensures c.in_ok-add_labelled-3.ensures
    (rw c.from-process.ensures at c.in_ok-add_labelled-4.ensures) c.in_ok-add_labelled-5.ensures
    c.in_ok-add_labelled-6.ensures c.in_ok-add_labelled-7.ensures)
    (put_last c.extend_from_slice.result c.extend_from_slice.new.self.items c.add_labelled-7.new.out.items (codes ")\">\n")
    c.extend_from_slice.ensures.items)
