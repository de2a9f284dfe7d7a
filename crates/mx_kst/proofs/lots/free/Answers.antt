use Rattle.std.proofs.Common.{slice_set, arith}
use Rattle.std.proofs.lemmas.List.Edits.{map_over_more}
use Rattle.mx_kst.specs.declared.lots.Lot.TheVariants.{Free}
use Rattle.mx_kst.specs.Terminating.{lot_without}
use Rattle.mx_kst.proofs.lots.free.Goals as goal

pub loop-lot-preserved : goal.loop-lot-preserved
loop-lot-preserved c =
    let lots = slice_set c.args.lots.now c.from.result Free in
    let more = map_over_more (lot_without c.args.segno) lots c.loop-lot.lots c.loop-lot.lot-index c.lot-item.result (omega arith) c.loop-lot.invariant c.lot-item.is in
    let written = c.without_section.ensures in
    let is = c.lot-item.is in
    cc
