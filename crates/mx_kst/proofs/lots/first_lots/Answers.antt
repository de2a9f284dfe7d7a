use Rattle.std.proofs.Common.{arith}
use Rattle.std.proofs.lemmas.List.FromFn.{map-range_with_len_more}
use Rattle.mx_kst.specs.declared.lots.Lot.TheVariants.{Stack}
use Rattle.mx_kst.proofs.lots.first_lots.Goals as goal

pub loop-n-preserved : goal.loop-n-preserved
loop-n-preserved c =
    let items = c.in_ok-push.ensures.items in
    let more = map-range_with_len_more Stack 0 c.loop-n.n c.loop-n.n (omega arith) in
    (cc, omega arith)
