use Rattle.std.proofs.lemmas.Result.{on_ok_weaker}
use Rattle.mx_picture.proofs.BoxLaws.{drawing_gained}
use Rattle.mx_picture.proofs.pictures.show_picture.Goals as goal

pub returns-clause-drawn : goal.returns-clause-drawn
returns-clause-drawn g c =
    on_ok_weaker c.draw.result (drawing_gained _ _ _ _ _ _ _ c.in_ok-layout.ensures c.in_ok-accesses.ensures.references
    c.in_ok-accesses.ensures.accesses) c.draw.ensures.drawn
