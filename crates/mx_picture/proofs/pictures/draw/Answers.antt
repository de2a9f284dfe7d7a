use Rattle.mx_picture.proofs.BoxLaws.{boxes_gained}
use Rattle.mx_picture.proofs.pictures.draw.Goals as goal

pub returns-clause-drawn : goal.returns-clause-drawn
returns-clause-drawn g c =
    boxes_gained _ _ _ _ _ _ _ _ _ _ _ _ c.new-out.ensures.items c.in_ok-extend_from_slice.ensures.items
    c.in_ok-draw_layers.ensures.drawn (rw c.deref.ensures.value at c.in_ok-draw_boxes.ensures.drawn) c.in_ok-draw_layers-2.ensures.drawn
    c.in_ok-extend_from_slice-2.ensures.items (rw c.deref-2.ensures.value at c.in_ok-write_all.ensures.all)
