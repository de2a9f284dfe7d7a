use Rattle.std.proofs.Common.{arith}
use Rattle.std.proofs.lemmas.List.FromFn.{map-range_with_len_more}
use Rattle.mx_kst.specs.declared.lots.Lot.TheVariants.{Stack}
use Rattle.mx_fresh.proofs.known.stacks.Goals as goal

pub loop-number-preserved : goal.loop-number-preserved
loop-number-preserved c =
    let items = c.in_ok-push.ensures.items in
    let more = map-range_with_len_more Stack 0 c.loop-number.number c.loop-number.number (omega arith) in
    cc
